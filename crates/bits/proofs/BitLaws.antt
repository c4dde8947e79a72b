-- The bits of a word, and of a row of words.
use Rattle.std.proofs.Common.{◌≡◌, ℕ, ◌/◌, ◌%◌, ◌^◌, ◌<◌, ◌≤◌, false, cond, not, eqb, List, length, get_or, set, replicate, sym, ap, ◌∙◌, subst, ⊎_elim, arith}
use Rattle.std.specs.Int.Bits.{bit_and, bit_xor}
use Rattle.std.specs.Int.{bit_at}
use Rattle.std.proofs.lemmas.Bool.Decides.{nat_tests}
use Rattle.std.proofs.lemmas.Bool.{cases_eq, cases_lt}
use Rattle.std.proofs.lemmas.List.{get_or-set_same, get_or-set_other, get_or-replicate, get_or_past, length-replicate}
use Rattle.std.proofs.lemmas.Nat.Bits.{bit_at-lt, bit_at-zero, bit_at_xor, bit_at-pow_same, bit_at-pow_other, shr_and_one}
use Rattle.bits.specs.Bits.{bit, bit_set}

-- as the code reads a bit
pub bit_read : (w k : ℕ) → eqb (bit_and (w / 2 ^ k) 1) 1 ≡ bit w k
unfolding bit
bit_read w k = ap (λ n. eqb n 1) (shr_and_one w k)

-- the bits of a word of which one was turned over
bit_flip : (w k j : ℕ) → bit (bit_xor w (2 ^ k)) j ≡ cond (eqb k j) (not (bit w j)) (bit w j)
unfolding bit
bit_flip w k j =
    ⊎_elim
    (λ (e : k ≡ j). let one : bit_at (2 ^ k) j ≡ 1 = subst (λ i. bit_at (2 ^ k) i ≡ 1) e (bit_at-pow_same k) in grind (arith, nat_tests, e, one, bit_at_xor w (2 ^ k) j, bit_at-lt w j))
    (λ ne. grind (arith, nat_tests, ne, bit_at-pow_other k j (λ e. ne (sym e)), bit_at_xor w (2 ^ k) j, bit_at-lt w j))
    (cases_eq k j)

-- the bits of a row of which one was turned over
pub lit_flip : (ws : List ℕ) (i : ℕ) → i / 64 < length ws
    → (j : ℕ) → bit_set (set ws (i / 64) (bit_xor (get_or ws (i / 64) 0) (2 ^ (i % 64)))) j ≡ cond (eqb i j) (not (bit_set ws j)) (bit_set ws j)
lit_flip ws i within j =
    let w = bit_xor (get_or ws (i / 64) 0) (2 ^ (i % 64)) in
    ⊎_elim
    (λ (e : j / 64 ≡ i / 64).
    let turned = bit_flip (get_or ws (i / 64) 0) (i % 64) (j % 64) in
    grind (arith, nat_tests, e, turned, get_or-set_same ws (i / 64) w 0 within))
    (λ ne. grind (arith, nat_tests, ne, get_or-set_other ws (i / 64) (j / 64) w 0 ne))
    (cases_eq (j / 64) (i / 64))

-- no bit of 0 is set
pub bit_zero : (k : ℕ) → bit 0 k ≡ false
unfolding bit
bit_zero k = ap (λ n. eqb n 1) (bit_at-zero k)

-- and none of a row of zeros
pub unlit : (n j : ℕ) → bit_set (replicate n 0) j ≡ false
unlit n j =
    let word : get_or (replicate n 0) (j / 64) 0 ≡ 0 =
    ⊎_elim (λ lt. get_or-replicate n (j / 64) 0 0 lt) (λ le. get_or_past (replicate n 0) (j / 64) 0 (subst (λ k. k ≤ j / 64) (sym (length-replicate n 0)) le)) (cases_lt (j / 64) n) in
    ap (λ w. bit w (j % 64)) word ∙ bit_zero (j % 64)

-- and none past the words
pub lit_past : (ws : List ℕ) (i : ℕ) → length ws ≤ i / 64 → bit_set ws i ≡ false
lit_past ws i past = ap (λ w. bit w (i % 64)) (get_or_past ws (i / 64) 0 past) ∙ bit_zero (i % 64)
