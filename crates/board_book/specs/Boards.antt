-- What a board book means.
use Rattle.std.specs.Prelude.{ℕ, vec_items, vec_len}
use Rattle.marks.specs.MarkBoards.{counts_kept, marks_kept}
use Rattle.book.specs.Meaning.{Meaning}
use Rattle.board_book.specs.TieBits.{possible, ties_in}
use Rattle.board_book.specs.declared.board.BoardBook.{BoardBook}

-- its counts and mark facts, the ties whose bits are set, and room for every possible tie
abbrev pub board_meaning : BoardBook → Meaning
board_meaning b = record {
  counts = counts_kept b.marks;
  capacity = possible (counts_kept b.marks);
  tied = ties_in (counts_kept b.marks) (vec_items b.words);
  marked = marks_kept b.marks;
}

-- how many words it holds
abbrev pub words_held : BoardBook → ℕ
words_held b = vec_len b.words
