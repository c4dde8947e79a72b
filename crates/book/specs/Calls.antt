-- What each call on a book answers, and what the book means after it.
use Rattle.std.specs.Prelude.{◌≡◌, ℕ, ◌<◌, ◌≤◌, Bool, true, false, cond, ◌&&◌, ◌||◌, is_ok, Some, None, Ok, Err, Option, Result, nat_le, nat_lt}
use Rattle.book.specs.declared.counts.Counts.{Counts}
use Rattle.book.specs.declared.tie.Tie.{Tie}
use Rattle.book.specs.declared.tie.Neighbours.{Neighbours}
use Rattle.book.specs.declared.mark.MarkFact.{MarkFact}
use Rattle.book.specs.declared.refusal.RangeRefusal.{RangeRefusal}
use Rattle.book.specs.declared.refusal.RangeRefusal.TheVariants.{OutOfRange}
use Rattle.book.specs.declared.refusal.EnterRefusal.{EnterRefusal}
use Rattle.book.specs.declared.refusal.EnterRefusal.TheVariants.{Range, Full}
use Rattle.book.specs.Ties.{toward}
use Rattle.book.specs.Meaning.{Meaning, tie_range, mark_range, ties_of, at3, at2, with_ties, with_marks}

-- each number of the tie is below its count
abbrev pub tie_within : Counts → Tie → Bool
tie_within c t = tie_range c t.label t.from t.to

-- both numbers of the mark fact are below their counts
abbrev pub mark_within : Counts → MarkFact → Bool
mark_within c f = mark_range c f.mark f.name

-- the label and the name are below their counts, and `at` is not above the names
abbrev pub next_within : Counts → Neighbours → ℕ → Bool
next_within c of at = nat_lt of.label c.labels && nat_lt of.name c.names && nat_le at c.names

-- 1 unless the numbers are in range
abbrev pub ranged : Bool → Result (Unit {0}) RangeRefusal
ranged w = cond w (Ok tt) (Err OutOfRange)

-- the tie is in the book
abbrev pub has : Meaning → Tie → Bool
has m t = m.tied t.label t.from t.to

-- what the question whether a tie is there is answered
abbrev pub TieTold : Meaning → Tie → Result Bool RangeRefusal → Type 0
TieTold m t r = r ≡ cond (tie_within m.counts t) (Ok (has m t)) (Err OutOfRange)

-- what the question whether a name has a mark is answered
abbrev pub MarkTold : Meaning → MarkFact → Result Bool RangeRefusal → Type 0
MarkTold m f r = r ≡ cond (mark_within m.counts f) (Ok (m.marked f.mark f.name)) (Err OutOfRange)

-- what entering a tie answers: 1 out of range, 2 where it is absent and the book is full
abbrev pub entering : Meaning → Tie → Result (Unit {0}) EnterRefusal
entering m t = cond (tie_within m.counts t) (cond (has m t || nat_lt (ties_of m) m.capacity) (Ok tt) (Err Full)) (Err (Range OutOfRange))

-- the book after it: with the tie, if that was accepted
abbrev pub entered : Meaning → Tie → Meaning
entered m t = cond (is_ok (entering m t)) (with_ties m (at3 m.tied t.label t.from t.to true)) m

-- what striking a tie answers
abbrev pub striking : Meaning → Tie → Result (Unit {0}) RangeRefusal
striking m t = ranged (tie_within m.counts t)

-- the book after it: without the tie, if it is in range
abbrev pub struck : Meaning → Tie → Meaning
struck m t = cond (tie_within m.counts t) (with_ties m (at3 m.tied t.label t.from t.to false)) m

-- what setting or lifting a mark answers
abbrev pub marking : Meaning → MarkFact → Result (Unit {0}) RangeRefusal
marking m f = ranged (mark_within m.counts f)

-- the book after it: with the mark fact (v true) or without it (v false), if it is in range
abbrev pub marked_as : Meaning → MarkFact → Bool → Meaning
marked_as m f v = cond (mark_within m.counts f) (with_marks m (at2 m.marked f.mark f.name v)) m

-- y is one of the neighbours: the tie that joins them is in the book
abbrev pub joins : Meaning → Neighbours → ℕ → Bool
joins m of y = has m (toward of y)

-- what next answers: the lowest of the neighbours that is not below `at`, or none
abbrev pub Next : Meaning → Neighbours → ℕ → Result (Option ℕ) RangeRefusal → Type 0
Next m of at (Ok None) = (next_within m.counts of at ≡ true) × ((k : ℕ) → at ≤ k → joins m of k ≡ false)
Next m of at (Ok (Some y)) = (next_within m.counts of at ≡ true) × (at ≤ y) × (joins m of y ≡ true) × ((k : ℕ) → at ≤ k → k < y → joins m of k ≡ false)
Next m of at (Err OutOfRange) = next_within m.counts of at ≡ false
