-- Proofs of the laws of satisfaction.
use Rattle.std.proofs.Common.{◌≡◌, ℕ, true, false, not, Ok, Err, refl, sym, ◌∙◌, inl, inr, ⊎_elim}
use Rattle.std.proofs.lemmas.Bool.{or_left, or_right, and_from, not_from_false}
use Rattle.book.specs.Meaning.{Meaning}
use Rattle.book.specs.declared.refusal.RangeRefusal.TheVariants.{OutOfRange}
use Rattle.policy_words.specs.Tree.{Formula}
use Rattle.policy_words.specs.Tree.Formula.{is, same, has, neg, both, either, at_letter, at_name, bind, some}
use Rattle.policy_words.specs.declared.word.Letter.{Letter}
use Rattle.policy_words.specs.declared.word.Letter.TheVariants as L
use Rattle.policy.specs.Letters.{alike, given}
use Rattle.policy.specs.Free.{free}
use Rattle.policy.specs.Anchor.{Anchored}
use Rattle.policy.specs.Anchor.Anchored.{at_requester, at_resource, not as a_not, and as a_and, or as a_or}
use Rattle.policy.proofs.Places.{alike_self, closed_is_free}
use Rattle.semantics.specs.Satisfaction.{Valuation, value, assign, Holds}
use Rattle.semantics.specs.declared.verdict.Verdict.TheVariants.{Open, Closed as Shut}
use Rattle.semantics.specs.Verdicts.{Asks, FreeLettersDecide, JudgedAnywhere, OneJudgement}

-- where two valuations agree on each letter but one, they agree once that one is set in both
assigned : (g h : Valuation) (s : ℕ) (u v : Letter) → (alike v u ≡ false → value g v ≡ value h v) → value (assign u s g) v ≡ value (assign u s h) v
assigned g h s L.Requester L.Requester k = refl
assigned g h s L.Requester L.Resource k = k refl
assigned g h s L.Requester L.A k = k refl
assigned g h s L.Requester L.B k = k refl
assigned g h s L.Resource L.Requester k = k refl
assigned g h s L.Resource L.Resource k = refl
assigned g h s L.Resource L.A k = k refl
assigned g h s L.Resource L.B k = k refl
assigned g h s L.A L.Requester k = k refl
assigned g h s L.A L.Resource k = k refl
assigned g h s L.A L.A k = refl
assigned g h s L.A L.B k = k refl
assigned g h s L.B L.Requester k = k refl
assigned g h s L.B L.Resource k = k refl
assigned g h s L.B L.A k = k refl
assigned g h s L.B L.B k = refl

pub free_letters_decide : FreeLettersDecide
free_letters_decide m (is n) g h agree s p = p
free_letters_decide m (same v) g h agree s p = p ∙ agree v (alike_self v)
free_letters_decide m (has k) g h agree s p = p
free_letters_decide m (neg f) g h agree s p = λ q. p (free_letters_decide m f h g (λ v e. sym (agree v e)) s q)
free_letters_decide m (both f k) g h agree s p = (
  free_letters_decide m f g h (λ v e. agree v (or_left (free v f) (free v k) e)) s p.0,
  free_letters_decide m k g h (λ v e. agree v (or_right (free v f) (free v k) e)) s p.1,
)
free_letters_decide m (either f k) g h agree s p =
    ⊎_elim
    (λ l. inl (free_letters_decide m f g h (λ v e. agree v (or_left (free v f) (free v k) e)) s l))
    (λ r. inr (free_letters_decide m k g h (λ v e. agree v (or_right (free v f) (free v k) e)) s r))
    p
free_letters_decide m (at_letter u f) g h agree s (y, lt, (e, p)) =
    (y, lt, (e ∙ agree u (or_left (alike u u) (free u f) (alike_self u)), free_letters_decide m f g h (λ v d. agree v (or_right (alike v u) (free v f) d)) y p))
free_letters_decide m (at_name n f) g h agree s (y, lt, (e, p)) = (y, lt, (e, free_letters_decide m f g h agree y p))
free_letters_decide m (bind u f) g h agree s p =
    free_letters_decide m f (assign u s g) (assign u s h) (λ v e. assigned g h s u v (λ d. agree v (and_from (not (alike v u)) (free v f) (not_from_false (alike v u) d) e))) s p
free_letters_decide m (some t f) g h agree s (y, lt, (j, p)) = (y, lt, (j, free_letters_decide m f g h agree y p))

-- an anchored formula holds at each name where it holds at one
anywhere : (m : Meaning) (g : Valuation) (f : Formula) → Anchored f → (s t : ℕ) → Holds m f g s → Holds m f g t
anywhere m g _ (at_requester f) s t p = p
anywhere m g _ (at_resource f) s t p = p
anywhere m g _ (a_not f a) s t p = λ q. p (anywhere m g f a t s q)
anywhere m g _ (a_and f k a b) s t p = (anywhere m g f a s t p.0, anywhere m g k b s t p.1)
anywhere m g _ (a_or f k a b) s t p = ⊎_elim (λ l. inl (anywhere m g f a s t l)) (λ r. inr (anywhere m g k b s t r)) p

-- two valuations of one request agree on the letters that it gives
agreed : (q r : ℕ) (g h : Valuation) → Asks q r g → Asks q r h → (v : Letter) → given v ≡ true → value g v ≡ value h v
agreed q r g h a b L.Requester e = a.0 ∙ sym b.0
agreed q r g h a b L.Resource e = a.1 ∙ sym b.1
agreed q r g h a b L.A e = cc
agreed q r g h a b L.B e = cc

pub judged_anywhere : JudgedAnywhere
judged_anywhere m f q r closed anchored g asks s lt = (
  λ (h, asked, (t, _, p)).
      anywhere m g f anchored t s (free_letters_decide m f h g (λ v e. agreed q r h g asked asks v ((closed_is_free f).0 closed v e)) t p),
  λ p. (g, asks, (s, lt, p)),
)

pub one_judgement : OneJudgement
one_judgement m p q r (Ok Open) (Ok Open) a b = refl
one_judgement m p q r (Ok Open) (Ok Shut) a b = absurd (b.1 a.1)
one_judgement m p q r (Ok Shut) (Ok Open) a b = absurd (a.1 b.1)
one_judgement m p q r (Ok Shut) (Ok Shut) a b = refl
one_judgement m p q r (Ok v) (Err OutOfRange) a b = absurd (b a.0)
one_judgement m p q r (Err OutOfRange) (Ok v) a b = absurd (a b.0)
one_judgement m p q r (Err OutOfRange) (Err OutOfRange) a b = refl
