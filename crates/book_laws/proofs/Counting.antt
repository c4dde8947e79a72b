-- How a count of ties moves when one of them does.
use Rattle.std.proofs.Common.{◌≡◌, ℕ, zero, suc, ◌+◌, ◌*◌, ◌<◌, ◌≤◌, Bool, true, false, cond, sym, refl, ap, ⊎_elim, mul_assoc, suc-mul, arith}
use Rattle.std.specs.Int.{from_bool}
use Rattle.std.proofs.lemmas.Bool.{cases_eq, cond_both}
use Rattle.std.proofs.lemmas.Bool.Decides.{nat_tests}
use Rattle.book.specs.Meaning.{sum_below, count_below, count2, count3, at2, at3}

pub sum_below_same : (n : ℕ) (f g : ℕ → ℕ) → ((k : ℕ) → k < n → f k ≡ g k) → sum_below n f ≡ sum_below n g
sum_below_same zero f g h = refl
sum_below_same (suc n) f g h =
    let rest = sum_below_same n f g (λ k lt. h k (omega arith)) in
    let here = h n (omega arith) in
    omega (arith, rest, here)

-- g is like f, but at i
pub sum_below_at : (n i : ℕ) (f g : ℕ → ℕ) → i < n → ((k : ℕ) → (k ≡ i → ⊥) → f k ≡ g k) → sum_below n g + f i ≡ sum_below n f + g i
sum_below_at zero i f g lt other = omega arith
sum_below_at (suc n) i f g lt other =
    ⊎_elim
    (λ e. let rest = sum_below_same n f g (λ k l. other k (λ x. omega arith)) in
    omega (arith, rest, ap f e, ap g e))
    (λ ne. let rest = sum_below_at n i f g (omega arith) other in
    let here = other n (λ x. ne (sym x)) in
    omega (arith, rest, here))
    (cases_eq i n)

-- q is like p, but at (k, n)
count2_differ : (a b : ℕ) (p q : ℕ → ℕ → Bool) (k n : ℕ) → k < a → n < b → ((x y : ℕ) → ((x ≡ k) × (y ≡ n) → ⊥) → p x y ≡ q x y)
    → count2 a b q + cond (p k n) 1 0 ≡ count2 a b p + cond (q k n) 1 0
count2_differ a b p q k n k-in n-in other =
    let row = sum_below_at b n (λ y. cond (p k y) 1 0) (λ y. cond (q k y) 1 0) n-in (λ y ne. ap (λ v. cond v 1 0) (other k y (λ e. ne e.1))) in
    let rows = sum_below_at a k (λ x. count_below b (p x)) (λ x. count_below b (q x)) k-in (λ x ne. sum_below_same b _ _ (λ y lt. ap (λ v. cond v 1 0) (other x y (λ e. ne e.0)))) in
    omega (arith, row, rows)

as_number : (v : Bool) → cond v 1 0 ≡ from_bool v
as_number true = refl
as_number false = refl

-- how many there are once the mark fact (k, n) is put in or taken out
pub count2_at : (a b : ℕ) (p : ℕ → ℕ → Bool) (k n : ℕ) → k < a → n < b → (v : Bool) → count2 a b (at2 p k n v) + from_bool (p k n) ≡ count2 a b p + from_bool v
count2_at a b p k n k-in n-in v =
    let there : at2 p k n v k n ≡ v = grind (arith, nat_tests) in
    let moved = count2_differ a b p (at2 p k n v) k n k-in n-in (λ x y ne. grind (arith, nat_tests, ne)) in
    omega (arith, moved, as_number (p k n), as_number (at2 p k n v k n), ap from_bool there)

-- the same of the tie (l, f, t)
module _ (labels names : ℕ) (p : ℕ → ℕ → ℕ → Bool) (l f t : ℕ) (l-in : l < labels) (f-in : f < names) (t-in : t < names) where
  pub count3_at : (v : Bool) → count3 labels names (at3 p l f t v) + from_bool (p l f t) ≡ count3 labels names p + from_bool v
  count3_at v =
      let there : at3 p l f t v l f t ≡ v = grind (arith, nat_tests) in
      let other : (x y z : ℕ) → ((x ≡ l) × (y ≡ f) × (z ≡ t) → ⊥) → p x y z ≡ at3 p l f t v x y z = λ x y z ne. grind (arith, nat_tests, ne) in
      let row = count2_differ names names (p l) (at3 p l f t v l) f t f-in t-in (λ y z ne. other l y z (λ e. ne (e.1, e.2))) in
      let rows = sum_below_at labels l (λ x. count2 names names (p x)) (λ x. count2 names names (at3 p l f t v x)) l-in (λ x ne. sum_below_same names _ _ (λ y lt. sum_below_same names _ _ (λ z lt'. ap (λ w. cond w 1 0) (other x y z (λ e. ne e.0))))) in
      omega (arith, row, rows, as_number (p l f t), as_number (at3 p l f t v l f t), ap from_bool there)

  pub count3_put : p l f t ≡ false → count3 labels names (at3 p l f t true) ≡ count3 labels names p + 1
  count3_put off = omega (arith, count3_at true, ap from_bool off)

  pub count3_cut : p l f t ≡ true → count3 labels names p ≡ count3 labels names (at3 p l f t false) + 1
  count3_cut on = omega (arith, count3_at false, ap from_bool on)

pub sum_below_le : (n b : ℕ) (f : ℕ → ℕ) → ((k : ℕ) → f k ≤ b) → sum_below n f ≤ n * b
sum_below_le zero b f h = omega arith
sum_below_le (suc n) b f h = omega (arith, sum_below_le n b f h, h n, suc-mul n b)

pub count_below_le : (n : ℕ) (p : ℕ → Bool) → count_below n p ≤ n
count_below_le n p =
    let each : (k : ℕ) → cond (p k) 1 0 ≤ 1 = λ k. cond_both (p k) 1 0 (λ v. v ≤ 1) (λ _. omega arith) (λ _. omega arith) in
    omega (arith, sum_below_le n 1 (λ k. cond (p k) 1 0) each)

pub count2_le : (a b : ℕ) (p : ℕ → ℕ → Bool) → count2 a b p ≤ a * b
count2_le a b p = sum_below_le a b (λ x. count_below b (p x)) (λ x. count_below_le b (p x))

pub count3_le : (a b : ℕ) (p : ℕ → ℕ → ℕ → Bool) → count3 a b p ≤ a * b * b
count3_le a b p = omega (arith, sum_below_le a (b * b) (λ x. count2 b b (p x)) (λ x. count2_le b b (p x)), mul_assoc a b b)

pub sum_below_none : (n : ℕ) (f : ℕ → ℕ) → ((k : ℕ) → f k ≡ 0) → sum_below n f ≡ 0
sum_below_none zero f h = refl
sum_below_none (suc n) f h = omega (arith, sum_below_none n f h, h n)

pub count2_none : (a b : ℕ) (p : ℕ → ℕ → Bool) → ((x y : ℕ) → p x y ≡ false) → count2 a b p ≡ 0
count2_none a b p h = sum_below_none a _ (λ x. sum_below_none b _ (λ y. ap (λ v. cond v 1 0) (h x y)))

pub count3_none : (a b : ℕ) (p : ℕ → ℕ → ℕ → Bool) → ((x y z : ℕ) → p x y z ≡ false) → count3 a b p ≡ 0
count3_none a b p h = sum_below_none a _ (λ x. count2_none b b (p x) (h x))
