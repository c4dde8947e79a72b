-- How often a tie stands in a list.
use Rattle.std.specs.Prelude.{◌≡◌, ℕ, zero, suc, ◌+◌, ◌<◌, ◌≤◌, Bool, true, false, cond, List, [], ◌∷◌, ◌++◌, length, get_or, take, is_some, Some, None, sum_by, count_by, Option, slice_index_or, slice_set, refl}
use Rattle.std.proofs.Math.Path.{ap}
use Rattle.std.proofs.Common.{subst, ◌∙◌, ⊎_elim, arith}
use Rattle.std.proofs.lemmas.Bool.Decides.{nat_tests}
use Rattle.std.proofs.lemmas.Bool.{cases_eq, cases_Bool}
use Rattle.std.proofs.lemmas.List.{get_or-set_same, get_or-set_other, get_or-take, length-take-le, length-set}
use Rattle.std.proofs.lemmas.List.Sums.{sum_by-cons, sum_by_push, sum_by_more, sum_by-set, get_or-le-sum_by}
use Rattle.rows.specs.Rows.{Absent, FirstAt, Finds}
use Rattle.book.specs.declared.tie.Tie.{Tie}
use Rattle.book.specs.Ties.{is_tie, same_tie}
use Rattle.list_book.specs.Listed.{times, listed}

module _ {X : Type 0} (p : X → Bool) where
  count_by_none : (xs : List X) → ((k : ℕ) (d : X) → k < length xs → p (slice_index_or xs k d) ≡ false) → count_by p xs ≡ 0
  count_by_none [] h = refl
  count_by_none (x ∷ xs) h =
      let here : ◌≡◌ {A = ℕ} (cond (p x) 1 0) 0 = ap (λ b. cond b 1 0) (h 0 x (omega arith)) in
      let rest = count_by_none xs (λ k d lt. h (suc k) d (omega arith)) in
      omega (arith, sum_by-cons (λ y. cond (p y) 1 0) x xs, here, rest)

  -- what is counted stands at some place
  count_by_some : (xs : List X) → 0 < count_by p xs → (k : ℕ) × (k < length xs) × ((d : X) → p (slice_index_or xs k d) ≡ true)
  count_by_some [] h = absurd (omega arith)
  count_by_some (x ∷ xs) h =
      ⊎_elim
      (λ (e : p x ≡ true). (0, omega arith, λ d. e))
      (λ (e : p x ≡ false).
      let here : ◌≡◌ {A = ℕ} (cond (p x) 1 0) 0 = ap (λ b. cond b 1 0) e in
      let rest = count_by_some xs (omega (arith, sum_by-cons (λ y. cond (p y) 1 0) x xs, here)) in
      (suc rest.0, omega (arith, rest.1), rest.2))
      (cases_Bool (p x))

  -- what stands at two places is counted twice
  count_by_two : (xs : List X) (j k : ℕ) (d : X) → j < k → k < length xs → p (slice_index_or xs j d) ≡ true → p (slice_index_or xs k d) ≡ true → 2 ≤ count_by p xs
  count_by_two [] j k d lt in' a b = omega arith
  count_by_two (x ∷ xs) zero zero d lt in' a b = omega arith
  count_by_two (x ∷ xs) (suc j) zero d lt in' a b = omega arith
  count_by_two (x ∷ xs) zero (suc k) d lt in' a b =
      let here : ◌≡◌ {A = ℕ} (cond (p x) 1 0) 1 = ap (λ v. cond v 1 0) a in
      let there : ◌≡◌ {A = ℕ} (cond (p (slice_index_or xs k d)) 1 0) 1 = ap (λ v. cond v 1 0) b in
      omega (arith, sum_by-cons (λ y. cond (p y) 1 0) x xs, here, there, get_or-le-sum_by (λ y. cond (p y) 1 0) xs k d (omega arith))
  count_by_two (x ∷ xs) (suc j) (suc k) d lt in' a b =
      omega (arith, sum_by-cons (λ y. cond (p y) 1 0) x xs, count_by_two xs j k d (omega arith) (omega arith) a b)

pub times_nil : (l f t : ℕ) → times [] l f t ≡ 0
unfolding times
times_nil l f t = refl

pub times_cons : (x : Tie) (xs : List Tie) (l f t : ℕ) → times (x ∷ xs) l f t ≡ cond (is_tie x l f t) 1 0 + times xs l f t
unfolding times
times_cons x xs l f t = sum_by-cons (λ y. cond (is_tie y l f t) 1 0) x xs

pub times_push : (xs : List Tie) (x : Tie) (l f t : ℕ) → times (xs ++ x ∷ []) l f t ≡ times xs l f t + cond (is_tie x l f t) 1 0
unfolding times
times_push xs x l f t = sum_by_push (λ y. cond (is_tie y l f t) 1 0) xs x

take_set_in : {X : Type 0} (n : ℕ) (xs : List X) (i : ℕ) (y : X) → take n (slice_set xs i y) ≡ slice_set (take n xs) i y
take_set_in zero xs i y = refl
take_set_in (suc n) [] i y = refl
take_set_in (suc n) (x ∷ xs) zero y = refl
take_set_in (suc n) (x ∷ xs) (suc i) y = ap (λ ys. x ∷ ys) (take_set_in n xs i y)

module _ (xs : List Tie) (i m : ℕ) (y d : Tie) (i-in : i < m + 1) (m-in : m < length xs) (last : get_or xs m d ≡ y) where
  kept_last : get_or (slice_set xs i y) m d ≡ y
  kept_last =
      ⊎_elim
      (λ (e : m ≡ i). subst (λ j. slice_index_or (slice_set xs j y) m d ≡ y) e (get_or-set_same xs m y d m-in))
      (λ ne. get_or-set_other xs i m y d ne ∙ last)
      (cases_eq m i)

  -- the place i filled from the last one
  pub times_moved : (l f t : ℕ) → times (take m (slice_set xs i y)) l f t + cond (is_tie (slice_index_or xs i d) l f t) 1 0 ≡ times (take (m + 1) xs) l f t
  unfolding times
  times_moved l f t =
      let g : Tie → ℕ = λ z. cond (is_tie z l f t) 1 0 in
      let long = length-take-le (m + 1) xs (omega arith) in
      let more = sum_by_more g (slice_set xs i y) m d (rw length-set m-in) in
      let top = ap g kept_last in
      let moved = sum_by-set g (take (m + 1) xs) i y d (omega arith) in
      let same-list = ap (sum_by g) (take_set_in (m + 1) xs i y) in
      let read = ap g (get_or-take (m + 1) xs i d i-in) in
      omega (arith, more, top, moved, same-list, read)

pub absent_times : (xs : List Tie) (t : Tie) → Absent same_tie xs (length xs) t → times xs t.label t.from t.to ≡ 0
unfolding times
absent_times xs t h = count_by_none (λ x. same_tie x t) xs h

-- a tie that stands at a place
pub stands_times : (xs : List Tie) (t : Tie) (i : ℕ) (d : Tie) → i < length xs → same_tie (slice_index_or xs i d) t ≡ true → 0 < times xs t.label t.from t.to
unfolding times
stands_times xs t i d lt at =
    let here : ◌≡◌ {A = ℕ} (cond (same_tie (slice_index_or xs i d) t) 1 0) 1 = ap (λ b. cond b 1 0) at in
    omega (arith, here, get_or-le-sum_by (λ x. cond (same_tie x t) 1 0) xs i d lt)

pub found_times : (xs : List Tie) (t : Tie) (i : ℕ) → FirstAt same_tie xs t i → 0 < times xs t.label t.from t.to
found_times xs t i (lt, at, before) = stands_times xs t i t lt (at t)

pub find_tells : (xs : List Tie) (t : Tie) (r : Option ℕ) → Finds same_tie xs t r → is_some r ≡ listed xs t.label t.from t.to
find_tells xs t None h = grind (arith, nat_tests, absent_times xs t h)
find_tells xs t (Some i) h = grind (arith, nat_tests, found_times xs t i h)

-- the place of a tie that is listed
pub place_of_lem : (xs : List Tie) (t : Tie) → 0 < times xs t.label t.from t.to → (k : ℕ) × (k < length xs) × ((d : Tie) → same_tie (slice_index_or xs k d) t ≡ true)
unfolding times
place_of_lem xs t h = count_by_some (λ x. same_tie x t) xs h

-- ties at two places are listed twice
pub two_times : (xs : List Tie) (t : Tie) (j k : ℕ) (d : Tie) → j < k → k < length xs → same_tie (slice_index_or xs j d) t ≡ true → same_tie (slice_index_or xs k d) t ≡ true → 2 ≤ times xs t.label t.from t.to
unfolding times
two_times xs t j k d lt in' a b = count_by_two (λ x. same_tie x t) xs j k d lt in' a b
