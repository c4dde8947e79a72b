-- Decimal numbers, digit by digit.
use Rattle.std.proofs.Common.{◌≡◌, ℕ, zero, suc, ◌+◌, ◌-◌, ◌*◌, ◌<◌, min, true, false, cond, List, [], ◌∷◌, ◌++◌, length, get_or, take, Some, None, refl, ap, ◌∙◌, arith}
use Rattle.std.proofs.lemmas.Bool.Decides.{nat_tests}
use Rattle.std.proofs.lemmas.List.{take_more}
use Rattle.std.specs.Char.{is_ascii_digit}
use Rattle.requests.specs.Decimal.{digits, value, written}

value_more : (n : ℕ) (xs : List ℕ) (b : ℕ) → value n (xs ++ (b ∷ [])) ≡ 10 * value n xs + (b - 48)
value_more n [] b = refl
value_more n (x ∷ xs) b = value_more (10 * n + (x - 48)) xs b

digits_more : (xs : List ℕ) (b : ℕ) → digits xs ≡ true → is_ascii_digit b ≡ true → digits (xs ++ (b ∷ [])) ≡ true
digits_more [] b e digit = grind (arith, nat_tests)
digits_more (x ∷ xs) b e digit =
    let rest : digits xs ≡ true = grind (arith, e) in
    let more = digits_more xs b rest digit in
    grind (arith, e, more)

-- a byte that is no digit
pub digits_bad : (xs : List ℕ) (i d : ℕ) → i < length xs → is_ascii_digit (get_or xs i d) ≡ false → digits xs ≡ false
digits_bad [] i d lt bad = absurd (omega arith)
digits_bad (x ∷ xs) zero d lt bad = grind (arith, nat_tests, bad)
digits_bad (x ∷ xs) (suc i) d lt bad =
    let rest = digits_bad xs i d (omega arith) bad in
    grind (arith, rest)

pub written_bad : (w : List ℕ) (most : ℕ) → digits w ≡ false → written w most ≡ None
written_bad [] most e = refl
written_bad (b ∷ bs) most e = ap (λ v. cond v (Some (min (value 0 (b ∷ bs)) most)) None) e

-- one digit on
module _ (w : List ℕ) (i : ℕ) (in-word : i < length w) where
  step : take (i + 1) w ≡ take i w ++ (get_or w i 0 ∷ [])
  step = take_more w i 0 in-word

  pub digits_next : digits (take i w) ≡ true → is_ascii_digit (get_or w i 0) ≡ true → digits (take (i + 1) w) ≡ true
  digits_next e digit = ap digits step ∙ digits_more (take i w) (get_or w i 0) e digit

  pub value_next : (n most m : ℕ) → n ≡ min (value 0 (take i w)) most → m ≡ min (10 * n + (get_or w i 0 - 48)) most → m ≡ min (value 0 (take (i + 1) w)) most
  value_next n most m is e =
      let more : value 0 (take (i + 1) w) ≡ 10 * value 0 (take i w) + (get_or w i 0 - 48) = ap (value 0) step ∙ value_more 0 (take i w) (get_or w i 0) in
      omega (arith, is, e, more)
