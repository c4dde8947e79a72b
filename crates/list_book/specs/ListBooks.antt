-- What a list book means, and what becomes of its row.
use Rattle.std.specs.Prelude.{◌≡◌, ℕ, ◌-◌, ◌<◌, min, true, false, cond, not, ◌&&◌, List, take, is_ok, vec_items, slice_index_or, slice_set}
use Rattle.book.specs.Limits.{within, least}
use Rattle.book.specs.Meaning.{Meaning, opened, ties_of}
use Rattle.book.specs.Calls.{entering, has}
use Rattle.marks.specs.MarkBoards.{counts_kept, marks_kept}
use Rattle.book.specs.declared.counts.Counts.{Counts}
use Rattle.book.specs.declared.tie.Tie.{Tie}
use Rattle.list_book.specs.Listed.{listed}
use Rattle.list_book.specs.declared.ListBook.{ListBook}

-- the whole row as it stands
abbrev pub row_items : ListBook → List Tie
row_items b = vec_items b.row

-- the ties in the used places of its row
abbrev pub row_ties : ListBook → List Tie
row_ties b = take b.used (row_items b)

-- what it means
abbrev pub list_meaning : ListBook → Meaning
list_meaning b = record {
  counts = counts_kept b.marks;
  capacity = b.limit;
  tied = listed (row_ties b);
  marked = marks_kept b.marks;
}

-- the meaning of a book that was made with these counts over a row of n places
abbrev pub made_meaning : Counts → ℕ → Meaning
made_meaning c n = cond (within c) (opened c (min n 4096)) (opened least 0)

-- The row after the tie was entered. Where it was accepted and had been absent, it stands at the first
-- place behind the ties, and every other place is as it was; else the whole row is as it was.
abbrev pub row_entered : ListBook → Tie → List Tie
row_entered b t =
    cond (is_ok (entering (list_meaning b) t) && not (has (list_meaning b) t))
    (slice_set (row_items b) (ties_of (list_meaning b)) t)
    (row_items b)

-- the row after the tie that stood at the place i was taken out: the tie that stood last stands at i, and
-- every other place is as it was
abbrev pub TakenFrom : ListBook → Tie → List Tie → ℕ → Type 0
TakenFrom b t after i =
    (i < ties_of (list_meaning b)) × ((d : Tie) → slice_index_or (row_items b) i d ≡ t)
    × ((d : Tie) → after ≡ slice_set (row_items b) i (slice_index_or (row_items b) (ties_of (list_meaning b) - 1) d))

-- The row after the tie was struck. Where it had been in the book, it was taken out from its place; where
-- it had not, as no tie out of range is, the whole row is as it was.
abbrev pub RowStruck : ListBook → Tie → List Tie → Type 0
RowStruck b t after =
    (has (list_meaning b) t ≡ true → (i : ℕ) × TakenFrom b t after i)
    × (has (list_meaning b) t ≡ false → after ≡ row_items b)
