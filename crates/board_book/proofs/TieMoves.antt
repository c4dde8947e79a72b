-- How the bits of ties move.
use Rattle.std.proofs.Common.{◌≡◌, ℕ, ◌+◌, ◌*◌, ◌<◌, ◌≤◌, Bool, true, false, cond, eqb, List, replicate, sym, ap, ◌∙◌, arith}
use Rattle.std.specs.Int.{from_bool}
use Rattle.std.proofs.lemmas.Bool.Decides.{nat_tests}
use Rattle.std.proofs.lemmas.Bool.{ne_eqb}
use Rattle.std.proofs.lemmas.Nat.{mul-le, same_from_place, rows}
use Rattle.book.specs.declared.counts.Counts.{Counts}
use Rattle.book.specs.declared.tie.Tie.{Tie}
use Rattle.bits.specs.Bits.{bit_set}
use Rattle.book.specs.Calls.{tie_within}
use Rattle.book.specs.Meaning.{at3, count3}
use Rattle.bits.proofs.BitLaws.{unlit}
use Rattle.book_laws.proofs.Counting.{count3_at, count3_none}
use Rattle.book_laws.proofs.Moves.{fun_ext3}
use Rattle.board_book.specs.TieBits.{place, possible, ties_in, CountedTies, Clear}

-- different ties have different bits
place_apart : (names l f t x y z : ℕ) → f < names → t < names → y < names → z < names
    → place names l f t ≡ place names x y z → (l ≡ x) × (f ≡ y) × (t ≡ z)
place_apart names l f t x y z f_in t_in y-in z-in e =
    let outer = same_from_place (l * names + f) t (x * names + y) z names t_in z-in e in
    let inner = same_from_place l f x y names f_in y-in outer.0 in
    (inner.0, inner.1, outer.1)

index_below : (a w c h : ℕ) → a < h → c < w → a * w + c < h * w
index_below a w c h p q = grind (arith, rows)

-- the bit of a possible tie is one of the first
pub place_below : (c : Counts) (t : Tie) → tie_within c t ≡ true → place c.names t.label t.from t.to < possible c
place_below c t within =
    let row = index_below t.label c.names t.from c.labels (grind (arith, nat_tests, within)) (grind (arith, nat_tests, within)) in
    index_below (t.label * c.names + t.from) c.names t.to (c.labels * c.names) row (grind (arith, nat_tests, within))

pub few_possible : (c : Counts) → c.labels ≤ 16 → c.names ≤ 64 → possible c ≤ 65536
few_possible c a b = mul-le (c.labels * c.names) c.names 1024 64 (mul-le c.labels c.names 16 64 a b) b

-- no bit is set
pub untied : (c : Counts) (n x y z : ℕ) → ties_in c (replicate n 0) x y z ≡ false
untied c n x y z = grind (arith, unlit n (place c.names x y z))

pub untied_counted : (c : Counts) (n : ℕ) → CountedTies c (replicate n 0) 0
untied_counted c n = sym (count3_none c.labels c.names _ (untied c n))

-- the bit of one tie was set to v
module _ (c : Counts) (ws vs : List ℕ) (t : Tie) (v : Bool) (within : tie_within c t ≡ true)
    (set : (j : ℕ) → bit_set vs j ≡ cond (eqb (place c.names t.label t.from t.to) j) v (bit_set ws j)) where
  abbrev here : ℕ
  here = place c.names t.label t.from t.to

  l_in : t.label < c.labels
  l_in = grind (arith, nat_tests, within)

  f_in : t.from < c.names
  f_in = grind (arith, nat_tests, within)

  t_in : t.to < c.names
  t_in = grind (arith, nat_tests, within)

  kept : (j : ℕ) → (here ≡ j → ⊥) → bit_set vs j ≡ bit_set ws j
  kept j apart = set j ∙ ap (λ b. cond b v (bit_set ws j)) (ne_eqb here j apart)

  set_at : (x y z : ℕ) → ties_in c vs x y z ≡ at3 (ties_in c ws) t.label t.from t.to v x y z
  set_at x y z =
      let apart = place_apart c.names t.label t.from t.to x y z f_in t_in in
      let bit = set (place c.names x y z) in
      grind (arith, nat_tests, within, apart, bit)

  pub ties_replaced : ties_in c vs ≡ at3 (ties_in c ws) t.label t.from t.to v
  ties_replaced = fun_ext3 set_at

  -- how many there are then
  pub count_replaced : count3 c.labels c.names (ties_in c vs) + from_bool (bit_set ws here) ≡ count3 c.labels c.names (ties_in c ws) + from_bool v
  count_replaced =
      let moved = count3_at c.labels c.names (ties_in c ws) t.label t.from t.to l_in f_in t_in v in
      let told : ties_in c ws t.label t.from t.to ≡ bit_set ws here = grind (arith, within) in
      omega (arith, moved, ap (count3 c.labels c.names) ties_replaced, ap from_bool told)

  pub still_clear : Clear c ws → Clear c vs
  still_clear clear j past = kept j (λ same. let low = place_below c t within in omega (arith, low, same, past)) ∙ clear j past
