-- What a mark board means: counts and mark facts.
use Rattle.std.specs.Prelude.{ℕ, Bool}
use Rattle.marks.specs.MarkBits.{marks_in}
use Rattle.book.specs.declared.counts.Counts.{Counts}
use Rattle.marks.specs.declared.mark_board.MarkBoard.{MarkBoard}

-- its counts
abbrev pub counts_kept : MarkBoard → Counts
counts_kept b = b.counts

-- its mark facts
abbrev pub marks_kept : MarkBoard → ℕ → ℕ → Bool
marks_kept b = marks_in b.counts b.words
