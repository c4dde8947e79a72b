-- Ties that stand in a list.
use Rattle.std.specs.Prelude.{◌≡◌, ℕ, ◌<◌, ◌≤◌, Bool, true, List, length, count_by, nat_lt, slice_index_or}
use Rattle.book.specs.Meaning.{Meaning, count3, inside3, ties_of}
use Rattle.book.specs.Calls.{has}
use Rattle.book.specs.Ties.{is_tie}
use Rattle.book.specs.declared.counts.Counts.{Counts}
use Rattle.book.specs.declared.tie.Tie.{Tie}

-- how often a tie stands in a list
unfoldable pub times : List Tie → ℕ → ℕ → ℕ → ℕ
times xs l f t = count_by (λ x. is_tie x l f t) xs

-- whether it stands there at all
abbrev pub listed : List Tie → ℕ → ℕ → ℕ → Bool
listed xs l f t = nat_lt 0 (times xs l f t)

-- each tie stands there at most once
abbrev pub Once : List Tie → Type 0
Once xs = (l f t : ℕ) → times xs l f t ≤ 1

-- none stands there that is outside the counts
abbrev pub Inside : Counts → List Tie → Type 0
Inside c xs = (l f t : ℕ) → listed xs l f t ≡ inside3 c (listed xs) l f t

-- as many ties are there as places are used
abbrev pub Counted : Counts → List Tie → ℕ → Type 0
Counted c xs used = used ≡ count3 c.labels c.names (listed xs)

-- The first places of a row, as many as a book has ties, hold the ties of the book, each once, in
-- whatever order.
pub record HoldsTies (m : Meaning) (xs : List Tie) : Type 0 where
  pub fits : ties_of m ≤ length xs
  -- what stands there is a tie of the book
  pub each : (k : ℕ) (d : Tie) → k < ties_of m → has m (slice_index_or xs k d) ≡ true
  -- every tie of the book stands there
  pub every : (t : Tie) → has m t ≡ true → (k : ℕ) × (k < ties_of m) × ((d : Tie) → slice_index_or xs k d ≡ t)
  -- at one place only
  pub once : (j k : ℕ) (d : Tie) → j < ties_of m → k < ties_of m → slice_index_or xs j d ≡ slice_index_or xs k d → j ≡ k
