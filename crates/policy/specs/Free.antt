-- The letters that a formula leaves free, and its loose words.
use Rattle.std.specs.Prelude.{◌≡◌, ℕ, ◌+◌, ◌≤◌, Bool, true, false, cond, not, ◌&&◌, ◌||◌, ◌⊎◌, Some, None, Option}
use Rattle.policy_words.specs.Tree.{Formula}
use Rattle.policy_words.specs.Tree.Formula.{is, same, has, neg, both, either, at_letter, at_name, bind, some}
use Rattle.policy_words.specs.declared.word.Letter.{Letter}
use Rattle.policy.specs.Letters.{alike, given, setting}
use Rattle.policy.specs.Table.{size, extent}

-- whether the letter v is free in a formula
abbrev pub free : Letter → Formula → Bool
free v (is n) = false
free v (same u) = alike v u
free v (has m) = false
free v (neg f) = free v f
free v (both f g) = free v f || free v g
free v (either f g) = free v f || free v g
free v (at_letter u f) = alike v u || free v f
free v (at_name n f) = free v f
free v (bind u f) = not (alike v u) && free v f
free v (some p f) = free v f

-- k is a place of P, n words later
abbrev pub Later : ℕ → (ℕ → Type 0) → ℕ → Type 0
Later n P k = (j : ℕ) × (k ≡ n + j) × P j

-- where the letters of s are set, word k of the formula names a letter that is not
abbrev pub Loose : (Letter → Bool) → Formula → ℕ → Type 0
Loose s (is n) k = ⊥
Loose s (same v) k = (k ≡ 0) × (s v ≡ false)
Loose s (has m) k = ⊥
Loose s (neg f) k = Later 1 (Loose s f) k
Loose s (both f g) k = Later 1 (Loose s f) k ⊎ Later (1 + size f) (Loose s g) k
Loose s (either f g) k = Later 1 (Loose s f) k ⊎ Later (1 + size f) (Loose s g) k
Loose s (at_letter v f) k = ((k ≡ 0) × (s v ≡ false)) ⊎ Later 1 (Loose s f) k
Loose s (at_name n f) k = Later 1 (Loose s f) k
Loose s (bind v f) k = Later 1 (Loose (setting v s) f) k
Loose s (some p f) k = Later (1 + extent p) (Loose s f) k

-- k is the first place of P
abbrev pub First : (ℕ → Type 0) → ℕ → Type 0
First P k = P k × ((j : ℕ) → P j → k ≤ j)

-- P has no place
abbrev pub Nowhere : (ℕ → Type 0) → Type 0
Nowhere P = (k : ℕ) → P k → ⊥

-- no word is loose, where only the requester and the resource are given
abbrev pub Closed : Formula → Type 0
Closed f = Nowhere (Loose given f)

-- the same as a function: the first of two places, and a place that is n words later
abbrev pub first : Option ℕ → Option ℕ → Option ℕ
first None o = o
first (Some k) o = Some k

abbrev pub later : ℕ → Option ℕ → Option ℕ
later n None = None
later n (Some k) = Some (n + k)

-- the first loose word
abbrev pub first_loose : (Letter → Bool) → Formula → Option ℕ
first_loose s (is n) = None
first_loose s (same v) = cond (s v) None (Some 0)
first_loose s (has m) = None
first_loose s (neg f) = later 1 (first_loose s f)
first_loose s (both f g) = first (later 1 (first_loose s f)) (later (1 + size f) (first_loose s g))
first_loose s (either f g) = first (later 1 (first_loose s f)) (later (1 + size f) (first_loose s g))
first_loose s (at_letter v f) = first (cond (s v) None (Some 0)) (later 1 (first_loose s f))
first_loose s (at_name n f) = later 1 (first_loose s f)
first_loose s (bind v f) = later 1 (first_loose (setting v s) f)
first_loose s (some p f) = later (1 + extent p) (first_loose s f)

-- a closed formula leaves at most the requester and the resource free, and no other formula does
abbrev pub ClosedIsFree : Type 0
ClosedIsFree = (f : Formula) → (Closed f → (v : Letter) → free v f ≡ true → given v ≡ true) × (((v : Letter) → free v f ≡ true → given v ≡ true) → Closed f)
