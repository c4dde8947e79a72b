-- What a book means: its counts, its capacity, its ties and its mark facts.
use Rattle.std.specs.Prelude.{◌≡◌, ℕ, zero, suc, ◌+◌, ◌<◌, ◌≤◌, Bool, true, false, cond, ◌&&◌, ◌==◌, nat_lt}
use Rattle.book.specs.Limits.{Within}
use Rattle.book.specs.declared.counts.Counts.{Counts}

-- The meaning of a book. A set of ties, or of mark facts, is given by what is in it.
pub record Meaning : Type 0 where
  pub counts : Counts
  -- how many ties it can hold
  pub capacity : ℕ
  -- whether there is a tie of this label from this name to this name
  pub tied : ℕ → ℕ → ℕ → Bool
  -- whether there is a mark fact of this mark and this name
  pub marked : ℕ → ℕ → Bool

-- the sum of f over the numbers below n
abbrev pub sum_below : ℕ → (ℕ → ℕ) → ℕ
sum_below zero f = 0
sum_below (suc n) f = sum_below n f + f n

-- how many numbers below n pass
abbrev pub count_below : ℕ → (ℕ → Bool) → ℕ
count_below n p = sum_below n (λ k. cond (p k) 1 0)

-- how many pairs below a and b pass
abbrev pub count2 : ℕ → ℕ → (ℕ → ℕ → Bool) → ℕ
count2 a b p = sum_below a (λ x. count_below b (p x))

-- how many triples below a, b and b pass
abbrev pub count3 : ℕ → ℕ → (ℕ → ℕ → ℕ → Bool) → ℕ
count3 a b p = sum_below a (λ x. count2 b b (p x))

-- how many ties there are
unfoldable pub ties_of : Meaning → ℕ
ties_of m = count3 m.counts.labels m.counts.names m.tied

-- how many mark facts there are
unfoldable pub marks_of : Meaning → ℕ
marks_of m = count2 m.counts.marks m.counts.names m.marked

-- What holds of every book: its counts are within their limits, its ties and mark facts within its
-- counts, and its ties do not outnumber its capacity.
pub record Sound (m : Meaning) : Type 0 where
  pub limits : Within m.counts
  pub tied_within : (l f t : ℕ) → m.tied l f t ≡ true → (l < m.counts.labels) × (f < m.counts.names) × (t < m.counts.names)
  pub marked_within : (k n : ℕ) → m.marked k n ≡ true → (k < m.counts.marks) × (n < m.counts.names)
  pub fits : ties_of m ≤ m.capacity

-- a book with no tie and no mark fact
abbrev pub opened : Counts → ℕ → Meaning
opened c n = record { counts = c; capacity = n; tied = λ _ _ _. false; marked = λ _ _. false }

-- the same book with other ties
abbrev pub with_ties : Meaning → (ℕ → ℕ → ℕ → Bool) → Meaning
with_ties m p = record { counts = m.counts; capacity = m.capacity; tied = p; marked = m.marked }

-- the same book with other mark facts
abbrev pub with_marks : Meaning → (ℕ → ℕ → Bool) → Meaning
with_marks m p = record { counts = m.counts; capacity = m.capacity; tied = m.tied; marked = p }

-- p, but v at (l, f, t)
abbrev pub at3 : (ℕ → ℕ → ℕ → Bool) → ℕ → ℕ → ℕ → Bool → ℕ → ℕ → ℕ → Bool
at3 p l f t v x y z = cond (l == x && f == y && t == z) v (p x y z)

-- p, but v at (k, n)
abbrev pub at2 : (ℕ → ℕ → Bool) → ℕ → ℕ → Bool → ℕ → ℕ → Bool
at2 p k n v x y = cond (k == x && n == y) v (p x y)

-- the numbers of a tie, or of a mark fact, are below their counts
abbrev pub tie_range : Counts → ℕ → ℕ → ℕ → Bool
tie_range c l f t = nat_lt l c.labels && nat_lt f c.names && nat_lt t c.names

abbrev pub mark_range : Counts → ℕ → ℕ → Bool
mark_range c k n = nat_lt k c.marks && nat_lt n c.names

-- p within the counts of labels and names, nothing outside them
abbrev pub inside3 : Counts → (ℕ → ℕ → ℕ → Bool) → ℕ → ℕ → ℕ → Bool
inside3 c p l f t = tie_range c l f t && p l f t

-- p within the counts of marks and names, nothing outside them
abbrev pub inside2 : Counts → (ℕ → ℕ → Bool) → ℕ → ℕ → Bool
inside2 c p k n = mark_range c k n && p k n
