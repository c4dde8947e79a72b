-- The bits of shifted and joined words, and the lowest bit of a word.
use Rattle.std.proofs.Common.{◌≡◌, ℕ, zero, suc, ◌+◌, ◌-◌, ◌*◌, ◌/◌, ◌%◌, ◌^◌, ◌<◌, ◌≤◌, true, false, ◌||◌, eqb, List, get_or, sym, refl, ap, ◌∙◌, subst, ⊎_elim, div-one, arith}
use Rattle.std.specs.Int.Bits.{bit_or}
use Rattle.std.specs.Int.{bit_at}
use Rattle.std.specs.Int.Count.{count_trailing_zeros, under}
use Rattle.std.proofs.lemmas.Bool.{cases_eq, cases_lt}
use Rattle.std.proofs.lemmas.Bool.Decides.{nat_tests}
use Rattle.std.proofs.lemmas.Nat.{pow_pos, shr-shr, shr_split, mod_below}
use Rattle.std.proofs.lemmas.Nat.Bits.{bit_at-lt, bit_at-zero, bit_at_or, bit_at_above, bit_at_cat_low, bit_at_cat_high}
use Rattle.bits.specs.Bits.{bit, bit_set}

bit_shr : (w s k : ℕ) → bit (w / 2 ^ s) k ≡ bit w (s + k)
unfolding bit
bit_shr w s k = ap (λ n. eqb (n % 2) 1) (shr-shr w s k)

bit_joined : (a b k : ℕ) → bit (bit_or a b) k ≡ (bit a k || bit b k)
unfolding bit
bit_joined a b k = grind (arith, nat_tests, bit_at_or a b k, bit_at-lt a k, bit_at-lt b k)

-- no bit from 64 on is set in a word
bit_above : (w k : ℕ) → w < 2 ^ 64 → 64 ≤ k → bit w k ≡ false
unfolding bit
bit_above w k lt le = ap (λ n. eqb n 1) (bit_at_above w 64 k lt le)

-- the bits of a word that was shifted to the left and cut to 64 bits
module _ (w s k : ℕ) (k-in : k < 64) where
  kept : bit_at ((w * 2 ^ s) % 2 ^ 64) k ≡ bit_at (w * 2 ^ s + 0) k
  kept =
      let n = w * 2 ^ s in
      let same : n / 2 ^ 64 * 2 ^ 64 + n % 2 ^ 64 ≡ n + 0 = omega (arith, shr_split n 64) in
      sym (bit_at_cat_low (n / 2 ^ 64) 64 (n % 2 ^ 64) k k-in) ∙ ap (λ m. bit_at m k) same

  shl_low : k < s → bit ((w * 2 ^ s) % 2 ^ 64) k ≡ false
  unfolding bit
  shl_low lt = ap (λ n. eqb n 1) (kept ∙ bit_at_cat_low w s 0 k lt ∙ bit_at-zero k)

  shl_high : s ≤ k → bit ((w * 2 ^ s) % 2 ^ 64) k ≡ bit w (k - s)
  unfolding bit
  shl_high le = ap (λ n. eqb n 1) (kept ∙ bit_at_cat_high w s 0 k (pow_pos s) le)

-- the bits from bit i on: the word in which it stands, and the next one
module _ (ws : List ℕ) (i k a : ℕ) (k-in : k < 64) (first : a ≡ get_or ws (i / 64) 0) where
  within_first : i % 64 + k < 64 → bit (a / 2 ^ (i % 64)) k ≡ bit_set ws (i + k)
  within_first lt =
      let at : i / 64 ≡ (i + k) / 64 = omega arith in
      let r : i % 64 + k ≡ (i + k) % 64 = omega arith in
      bit_shr a (i % 64) k ∙ ap (λ w. bit w (i % 64 + k)) (first ∙ ap (λ n. get_or ws n 0) at) ∙ ap (bit (get_or ws ((i + k) / 64) 0)) r

  pub gathered_whole : i % 64 ≡ 0 → bit (a / 2 ^ (i % 64)) k ≡ bit_set ws (i + k)
  gathered_whole e = within_first (omega arith)

  pub gathered_parts : (b : ℕ) → (i % 64 ≡ 0 → ⊥) → a < 2 ^ 64 → b ≡ get_or ws (i / 64 + 1) 0
      → bit (bit_or (a / 2 ^ (i % 64)) ((b * 2 ^ (64 - i % 64)) % 2 ^ 64)) k ≡ bit_set ws (i + k)
  gathered_parts b ne fits second =
      let s = 64 - i % 64 in
      bit_joined (a / 2 ^ (i % 64)) ((b * 2 ^ s) % 2 ^ 64) k
      ∙ ⊎_elim
      (λ (lt : k < s). grind (arith, shl_low b s k k-in lt, within_first (omega arith)))
      (λ (le : s ≤ k).
      let at : i / 64 + 1 ≡ (i + k) / 64 = omega arith in
      let r : k - s ≡ (i + k) % 64 = omega arith in
      let none : bit (a / 2 ^ (i % 64)) k ≡ false = bit_shr a (i % 64) k ∙ bit_above a (i % 64 + k) fits (omega arith) in
      let found : bit b (k - s) ≡ bit_set ws (i + k) = ap (λ w. bit w (k - s)) (second ∙ ap (λ n. get_or ws n 0) at) ∙ ap (bit (get_or ws ((i + k) / 64) 0)) r in
      grind (arith, none, shl_high b s k k-in le, found))
      (cases_lt k s)

-- a digit is 0 or 1
digit : (P : ℕ → Type 0) (n : ℕ) → n < 2 → P 0 → P 1 → P n
digit P n lt at0 at1 = ⊎_elim (λ (e : n ≡ 0). subst P (sym e) at0) (λ ne. let e : n ≡ 1 = omega (arith, ne) in subst P (sym e) at1) (cases_eq n 0)

bit_next : (n k : ℕ) → bit (n / 2) k ≡ bit n (suc k)
bit_next n k = let e : 1 + k ≡ suc k = omega arith in subst (λ j. bit (n / 2) k ≡ bit n j) e (bit_shr n 1 k)

bit-first : (n : ℕ) → bit n 0 ≡ eqb (n % 2) 1
unfolding bit
bit-first n = ap (λ m. eqb (m % 2) 1) (div-one n)

-- the bits below the lowest one that is set
pub trailing_clear : (k n j : ℕ) → j < count_trailing_zeros k n → bit n j ≡ false
unfolding count_trailing_zeros
trailing_clear zero n j lt = absurd (omega arith)
trailing_clear (suc k) n j lt =
    digit (λ d. n % 2 ≡ d → j < under d (count_trailing_zeros k (n / 2)) → bit n j ≡ false) (n % 2) (mod_below n 2 (omega arith))
    (λ e below.
    ⊎_elim
    (λ (z : j ≡ 0). subst (λ i. bit n i ≡ false) (sym z) (bit-first n ∙ ap (λ d. eqb d 1) e))
    (λ nz.
    let back : suc (j - 1) ≡ j = omega (arith, nz) in
    subst (λ i. bit n i ≡ false) back (sym (bit_next n (j - 1)) ∙ trailing_clear k (n / 2) (j - 1) (omega (arith, below, nz))))
    (cases_eq j 0))
    (λ e none. absurd (omega (arith, none)))
    refl lt

-- and that one
pub trailing_set : (k n : ℕ) → count_trailing_zeros k n < k → bit n (count_trailing_zeros k n) ≡ true
unfolding count_trailing_zeros
trailing_set zero n lt = absurd (omega arith)
trailing_set (suc k) n lt =
    let t = count_trailing_zeros k (n / 2) in
    digit (λ d. n % 2 ≡ d → under d t < suc k → bit n (under d t) ≡ true) (n % 2) (mod_below n 2 (omega arith))
    (λ e below. sym (bit_next n t) ∙ trailing_set k (n / 2) (omega (arith, below)))
    (λ e _. bit-first n ∙ ap (λ d. eqb d 1) e)
    refl lt
