-- The tests of allowed words.
use Rattle.std.proofs.Common.{◌≡◌, ℕ, ◌<◌, true, ltb, List, refl}
use Rattle.std.specs.List.{list_all}
use Rattle.std.proofs.lemmas.List.Sums.{AllPass-from_list_all, list_all-from_AllPass}
use Rattle.std.proofs.lemmas.Bool.{false≢true, lt-ltb, ltb-true}
use Rattle.policy_words.specs.Tree.{Settable, settable, Allowed, allowed, EachAllowed}
use Rattle.policy_words.specs.declared.word.Letter.{Letter}
use Rattle.policy_words.specs.declared.word.Letter.TheVariants as L
use Rattle.policy_words.specs.declared.word.Word.{Word}
use Rattle.policy_words.specs.declared.word.Word.TheVariants as W

sets : (v : Letter) → (settable v ≡ true → Settable v) × (Settable v → settable v ≡ true)
sets L.Requester = (λ e. false≢true e, λ h. absurd h)
sets L.Resource = (λ e. false≢true e, λ h. absurd h)
sets L.A = (λ e. tt, λ h. refl)
sets L.B = (λ e. tt, λ h. refl)

below : (n m : ℕ) → (ltb n m ≡ true → n < m) × (n < m → ltb n m ≡ true)
below n m = (ltb-true n m, lt-ltb n m)

pub allows : (w : Word) → (allowed w ≡ true → Allowed w) × (Allowed w → allowed w ≡ true)
allows (W.Name n) = below n 64
allows (W.Letter v) = (λ e. tt, λ h. refl)
allows (W.Mark m) = below m 16
allows W.Not = (λ e. tt, λ h. refl)
allows W.And = (λ e. tt, λ h. refl)
allows W.Or = (λ e. tt, λ h. refl)
allows (W.AtLetter v) = (λ e. tt, λ h. refl)
allows (W.AtName n) = below n 64
allows (W.Bind v) = sets v
allows W.Follow = (λ e. tt, λ h. refl)
allows (W.Forward l) = below l 16
allows (W.Backward l) = below l 16
allows W.Seq = (λ e. tt, λ h. refl)
allows W.Plus = (λ e. tt, λ h. refl)
allows W.Stay = (λ e. tt, λ h. refl)

-- the test of each word
pub each_allows : (ws : List Word) → list_all allowed ws ≡ true → EachAllowed ws
each_allows ws e = λ k d lt. (allows _).0 (AllPass-from_list_all allowed ws e k d lt)

pub allows_each : (ws : List Word) → EachAllowed ws → list_all allowed ws ≡ true
allows_each ws h = list_all-from_AllPass allowed ws (λ k d lt. (allows _).1 (h k d lt))
