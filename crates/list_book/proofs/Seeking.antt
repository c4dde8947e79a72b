-- The neighbours that the ties of a list make, and the lowest of them.
use Rattle.std.specs.Prelude.{◌≡◌, ℕ, ◌<◌, ◌≤◌, min, Bool, true, false, ◌&&◌, List, [], ◌∷◌, filter, fold, Some, None, Ok, Option, MatchOption, nat_eq, nat_le, if◌then◌else◌, refl}
use Rattle.std.specs.List.{filter_map, list_any, reduce, cons_option}
use Rattle.std.proofs.Common.{subst, ap, ◌∙◌, ⊎_elim, arith}
use Rattle.std.proofs.lemmas.Bool.{cases_eq}
use Rattle.std.proofs.lemmas.Bool.Decides.{nat_tests}
use Rattle.book.specs.declared.counts.Counts.{Counts}
use Rattle.book.specs.declared.tie.Tie.{Tie}
use Rattle.book.specs.declared.tie.Direction.{Direction}
use Rattle.book.specs.declared.tie.Direction.TheVariants.{Forward, Backward}
use Rattle.book.specs.declared.tie.Neighbours.{Neighbours}
use Rattle.book.specs.Meaning.{Meaning}
use Rattle.book.specs.Calls.{Next, joins, next_within, ranged}
use Rattle.marks.proofs.MarkMoves.{ranged_ok}
use Rattle.book.specs.Ties.{same_tie, joining, toward}
use Rattle.list_book.specs.Listed.{times, listed}
use Rattle.list_book.specs.Neighbours.{near, far, neighbour_by, lowest}
use Rattle.list_book.proofs.Times.{times_cons}

-- a tie of the list makes y a neighbour
abbrev pub joined : List Tie → Neighbours → ℕ → Bool
joined xs of y = listed xs (toward of y).label (toward of y).from (toward of y).to

-- k stands in the list
abbrev has : ℕ → List ℕ → Bool
has k ys = list_any (nat_eq k) ys

has_filter : (p : ℕ → Bool) (k : ℕ) (ys : List ℕ) → has k (filter p ys) ≡ (has k ys && p k)
has_filter p k [] = refl
has_filter p k (y ∷ ys) =
    let rest = has_filter p k ys in
    ⊎_elim
    (λ (e : k ≡ y). let same = ap p e in grind (arith, nat_tests, e, same, rest))
    (λ (ne : k ≡ y → ⊥). grind (arith, nat_tests, ne, rest))
    (cases_eq k y)

tested : (b : Bool) (y k : ℕ) (e : Bool) → (b ≡ false → e ≡ false) → (b ≡ true → e ≡ nat_eq k y) → MatchOption (if b then Some y else None) (e ≡ false) (λ z. e ≡ nat_eq k z)
tested true y k e off on = on refl
tested false y k e off on = off refl

-- a tie makes one neighbour, or none
made_by : (of : Neighbours) (x : Tie) (k : ℕ) → MatchOption (neighbour_by of x) (same_tie x (toward of k) ≡ false) (λ y. same_tie x (toward of k) ≡ nat_eq k y)
made_by of x k = by_direction of.label of.direction of.name
  where
    by_direction : (l : ℕ) (d : Direction) (s : ℕ) → MatchOption (if nat_eq x.label l && nat_eq (near d x) s then Some (far d x) else None) (same_tie x (joining l d s k) ≡ false) (λ y. same_tie x (joining l d s k) ≡ nat_eq k y)
    by_direction l Forward s = tested (nat_eq x.label l && nat_eq x.from s) x.to k _ (λ e. grind (arith, nat_tests, e)) (λ e. grind (arith, nat_tests, e))
    by_direction l Backward s = tested (nat_eq x.label l && nat_eq x.to s) x.from k _ (λ e. grind (arith, nat_tests, e)) (λ e. grind (arith, nat_tests, e))

has_made : (of : Neighbours) (k : ℕ) (xs : List Tie) → has k (filter_map (neighbour_by of) xs) ≡ joined xs of k
unfolding times
has_made of k [] = refl
has_made of k (x ∷ xs) = made (neighbour_by of x) (made_by of x k) (has_made of k xs)
  where
    made : (o : Option ℕ) → MatchOption o (same_tie x (toward of k) ≡ false) (λ y. same_tie x (toward of k) ≡ nat_eq k y) → has k (filter_map (neighbour_by of) xs) ≡ joined xs of k
        → has k (cons_option o (filter_map (neighbour_by of) xs)) ≡ joined (x ∷ xs) of k
    made None h rest = grind (arith, nat_tests, rest, h, times_cons x xs (toward of k).label (toward of k).from (toward of k).to)
    made (Some y) h rest = grind (arith, nat_tests, rest, h, times_cons x xs (toward of k).label (toward of k).from (toward of k).to)

fold_le : (a : ℕ) (ys : List ℕ) → fold min a ys ≤ a
fold_le a [] = omega arith
fold_le a (b ∷ ys) = let rest = fold_le (min a b) ys in omega (arith, rest)

-- the least of a and ys stands among them, and nothing below it does
fold_least : (a : ℕ) (ys : List ℕ) → (has (fold min a ys) (a ∷ ys) ≡ true) × ((k : ℕ) → k < fold min a ys → has k (a ∷ ys) ≡ false)
fold_least a [] = (grind (arith, nat_tests), λ k lt. grind (arith, nat_tests, lt))
fold_least a (b ∷ ys) =
    let h = fold_least (min a b) ys in
    let le = fold_le (min a b) ys in
    (grind (arith, nat_tests, h.0), λ k lt. let n = h.1 k lt in grind (arith, nat_tests, n, lt, le))

least : (ys : List ℕ) → MatchOption (reduce min ys) ((k : ℕ) → has k ys ≡ false) (λ y. (has y ys ≡ true) × ((k : ℕ) → k < y → has k ys ≡ false))
least [] = λ k. refl
least (a ∷ ys) = fold_least a ys

-- the lowest is the lowest of those that are joined
pub lowest_is : (of : Neighbours) (at : ℕ) (xs : List Tie) → MatchOption (lowest of at xs) ((k : ℕ) → at ≤ k → joined xs of k ≡ false) (λ y. (at ≤ y) × (joined xs of y ≡ true) × ((k : ℕ) → at ≤ k → k < y → joined xs of k ≡ false))
lowest_is of at xs = said (lowest of at xs) (least (filter (nat_le at) (filter_map (neighbour_by of) xs)))
  where
    found : List ℕ
    found = filter (nat_le at) (filter_map (neighbour_by of) xs)

    each : (k : ℕ) → has k found ≡ (joined xs of k && nat_le at k)
    each k = has_filter (nat_le at) k (filter_map (neighbour_by of) xs) ∙ ap (λ b. b && nat_le at k) (has_made of k xs)

    said : (o : Option ℕ) → MatchOption o ((k : ℕ) → has k found ≡ false) (λ y. (has y found ≡ true) × ((k : ℕ) → k < y → has k found ≡ false)) → MatchOption o ((k : ℕ) → at ≤ k → joined xs of k ≡ false) (λ y. (at ≤ y) × (joined xs of y ≡ true) × ((k : ℕ) → at ≤ k → k < y → joined xs of k ≡ false))
    said None h = λ k le. grind (arith, nat_tests, each k, h k, le)
    said (Some y) h = (grind (arith, nat_tests, each y, h.0), grind (arith, nat_tests, each y, h.0), λ k le lt. grind (arith, nat_tests, each k, h.1 k lt, le))

-- so that it is what next answers
pub next_told : (m : Meaning) (of : Neighbours) (at : ℕ) (o : Option ℕ) → next_within m.counts of at ≡ true
    → MatchOption o ((k : ℕ) → at ≤ k → joins m of k ≡ false) (λ y. (at ≤ y) × (joins m of y ≡ true) × ((k : ℕ) → at ≤ k → k < y → joins m of k ≡ false)) → Next m of at (Ok o)
next_told m of at None within h = (within, h)
next_told m of at (Some y) within h = (within, h.0, h.1, h.2)

-- a range test that was passed
pub next_in : (c d : Counts) (of : Neighbours) (at : ℕ) → d ≡ c → Ok tt ≡ ranged (next_within d of at) → next_within c of at ≡ true
next_in c d of at e h = subst (λ x. next_within x of at ≡ true) e (ranged_ok (next_within d of at) tt h)
