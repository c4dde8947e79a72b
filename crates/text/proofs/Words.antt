-- What a word may hold: the tests and what they mean.
use Rattle.std.proofs.Common.{◌≡◌, ℕ, ◌≤◌, cond, ◌&&◌, leb, List, length, Some, None, Decides, refl, ◌∙◌, MatchOption}
use Rattle.std.proofs.lemmas.Bool.{le-leb, leb-true, cond-true, cond-false, cond_both, false_from_ne_true}
use Rattle.std.proofs.lemmas.Bool.Decides.{Decides-and, Decides-or, Decides-eqb, not_from_Decides}
use Rattle.std.proofs.ByRecursion.{Decides-by_and}
use Rattle.text.specs.declared.word.WordCause.{WordCause}
use Rattle.text.specs.declared.word.WordCause.TheVariants.{BadByte, BadLength}
use Rattle.text.specs.Word.{PlainByte, Plain, Fine, Wrong, plain_byte, plain, cause_of}

decides_leb : (a b : ℕ) → Decides (leb a b) (a ≤ b)
decides_leb a b = (leb-true a b, le-leb a b)

decides_plain_byte : (b : ℕ) → Decides (plain_byte b) (PlainByte b)
decides_plain_byte b =
    Decides-or _ _ (Decides-and _ _ (decides_leb 97 b) (decides_leb b 122)) (Decides-or _ _ (Decides-and _ _ (decides_leb 48 b) (decides_leb b 57)) (Decides-eqb b 45))

pub decides_plain : (w : List ℕ) → Decides (plain w) (Plain w)
decides_plain w = Decides-by_and plain_byte PlainByte plain decides_plain_byte refl (λ _ _. refl) w

decides_sized : (w : List ℕ) → Decides (leb 1 (length w) && leb (length w) 16) ((1 ≤ length w) × (length w ≤ 16))
decides_sized w = Decides-and _ _ (decides_leb 1 (length w)) (decides_leb (length w) 16)

-- what a word's cause says of it
pub cause_means : (w : List ℕ) → MatchOption (cause_of w) (Fine w) (λ c. Wrong w c)
cause_means w =
    cond_both (plain w) (cond (leb 1 (length w) && leb (length w) 16) None (Some BadLength)) (Some BadByte) (λ o. MatchOption o (Fine w) (λ c. Wrong w c))
    (λ t. cond_both (leb 1 (length w) && leb (length w) 16) None (Some BadLength) (λ o. MatchOption o (Fine w) (λ c. Wrong w c)) (λ s. ((decides_plain w).0 t, (decides_sized w).0 s)) (λ s. ((decides_plain w).0 t, not_from_Decides _ (decides_sized w) s)))
    (λ f. not_from_Decides _ (decides_plain w) f)

-- and what is so said of a word is its cause
pub fine_cause : (w : List ℕ) → Fine w → cause_of w ≡ None
fine_cause w h = cond-true (plain w) _ _ ((decides_plain w).1 h.0) ∙ cond-true (leb 1 (length w) && leb (length w) 16) _ _ ((decides_sized w).1 h.1)

pub wrong_cause : (w : List ℕ) (c : WordCause) → Wrong w c → cause_of w ≡ Some c
wrong_cause w BadByte h = cond-false (plain w) _ _ (false_from_ne_true _ (λ t. h ((decides_plain w).0 t)))
wrong_cause w BadLength h =
    cond-true (plain w) _ _ ((decides_plain w).1 h.0) ∙ cond-false (leb 1 (length w) && leb (length w) 16) _ _ (false_from_ne_true _ (λ t. h.1 ((decides_sized w).0 t)))
