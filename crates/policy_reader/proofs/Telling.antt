-- From the words that were found to what is to be told.
use Rattle.std.proofs.Common.{◌≡◌, ℕ, zero, suc, ◌<◌, List, [], ◌∷◌, length, get_or, take, Ok, Err, Result, Some, None, Option, sym, refl, ap, subst, arith, MatchResult}
use Rattle.std.proofs.lemmas.List.{take_more, take_all, get_or-take, take-take}
use Rattle.std.proofs.lemmas.Slice.Zip.{AllZip-long}
use Rattle.text.specs.Text.{words as text_words, start_of}
use Rattle.text.specs.declared.word.WordFault.{WordFault}
use Rattle.roll.specs.declared.roll.Roll.{Roll}
use Rattle.policy_words.specs.Tree.{Formula, words, Whole, Begins, Unfinished, Allowed}
use Rattle.policy_words.specs.declared.shape.ShapeFault.{ShapeFault}
use Rattle.policy_words.specs.declared.shape.ShapeFault.TheVariants as S
use Rattle.policy_words.specs.declared.word.Word.{Word}
use Rattle.policy_words.specs.declared.word.Word.TheVariants as W
use Rattle.policy.specs.Letters.{given}
use Rattle.policy.specs.Policies.{Makes, Means}
use Rattle.policy.specs.declared.fault.WordsFault.{WordsFault}
use Rattle.policy.specs.declared.fault.WordsFault.TheVariants as F
use Rattle.policy.specs.declared.policy.Policy.{Policy}
use Rattle.policy.proofs.Places.{loose_below, stray_below}
use Rattle.policy_reader.specs.Spell.{Spells, IsOperand}
use Rattle.policy_reader.specs.Told.{EachSpells, Spelled, Reaches, Told, Gave}
use Rattle.policy_reader.specs.Found.{Finds, Stops}
use Rattle.policy_reader.specs.Ends.{after_fault, short_fault, ShapeRefused, Refused}
use Rattle.policy_reader.specs.declared.fault.Cause.{Cause}
use Rattle.policy_reader.specs.declared.found.Found.{Found}
use Rattle.policy_reader.specs.declared.fault.PolicyFault.{PolicyFault}

pub each_length : (r : Roll) (vs : List Word) (bs : List (List ℕ)) → EachSpells r vs bs → length vs ≡ length bs
each_length r vs bs h = sym (AllZip-long (Spells r) vs bs h)

pub each_take : (r : Roll) (vs : List Word) (bs : List (List ℕ)) (k : ℕ) → EachSpells r vs bs → EachSpells r (take k vs) (take k bs)
each_take r [] [] zero h = tt
each_take r [] [] (suc k) h = tt
each_take r [] (b ∷ bs) k h = absurd h
each_take r (v ∷ vs) [] k h = absurd h
each_take r (v ∷ vs) (b ∷ bs) zero h = tt
each_take r (v ∷ vs) (b ∷ bs) (suc k) h = (h.0, each_take r vs bs k h.1)

pub each_at : (r : Roll) (vs : List Word) (bs : List (List ℕ)) (k : ℕ) → EachSpells r vs bs → k < length vs → Spells r (get_or vs k (W.Name 0)) (get_or bs k [])
each_at r [] bs k h lt = absurd (omega arith)
each_at r (v ∷ vs) [] k h lt = absurd h
each_at r (v ∷ vs) (b ∷ bs) zero h lt = h.0
each_at r (v ∷ vs) (b ∷ bs) (suc k) h lt = each_at r vs bs k h.1 (omega arith)

operand-allowed : (r : Roll) (w : Word) (o : List ℕ) → IsOperand r w o → Allowed w
operand-allowed r w o h = grind arith

module _ (r : Roll) (x : Found) (fd : Finds r x) where
  abbrev t : List ℕ
  t = x.text.now

  abbrev ws : List (List ℕ)
  ws = text_words t

  abbrev vs : List Word
  vs = x.words.items

  reach : (k : ℕ) → k < length vs → Reaches r t k (start_of k ws) (take k vs)
  reach k lt = record {
    there = omega (arith, fd.within);
    place = refl;
    before = subst (EachSpells r (take k vs)) (take-take k (length vs) ws (omega arith)) (each_take r vs (take (length vs) ws) k fd.spelled);
  }

  reach_all : (n : ℕ) → length vs < length ws → n ≡ start_of (length vs) ws → Reaches r t (length vs) n vs
  reach_all n lt e = record { there = lt; place = e; before = fd.spelled }

  all_spelled : length vs ≡ length ws → EachSpells r vs ws
  all_spelled e = subst (EachSpells r vs) (take_all (length vs) ws (omega arith)) fd.spelled

  word_spelled : (k : ℕ) → k < length vs → Spells r (get_or vs k (W.Name 0)) (get_or ws k [])
  word_spelled k lt = subst (Spells r (get_or vs k (W.Name 0))) (get_or-take (length vs) ws k [] lt) (each_at r vs (take (length vs) ws) k fd.spelled (omega arith))

  -- an answer that is to be told was given
  abbrev Answered : Result Policy PolicyFault → Type 0
  Answered res = (y : Result Formula PolicyFault) × Gave res y × Told r t y

  to_err : (e : PolicyFault) (res : Result Policy PolicyFault) → res ≡ Err e → Told r t (Err e) → Answered res
  to_err e res h told = (Err e, subst (λ z. Gave z (Err e)) (sym h) refl, told)

  -- the words are a whole formula: the text goes on, or it is over
  whole_told : (stop : Result (Option ℕ) (WordFault Cause)) → Stops r ws (length vs) stop → Whole vs → (res : Result Policy PolicyFault) (Q : Type 0) → MatchResult (after_fault stop) (λ _. Q) (λ e. res ≡ Err e) → (length vs ≡ length ws → Q → Answered res) → Answered res
  whole_told (Ok None) s w res Q c over = over s c
  whole_told (Ok (Some at)) s w res Q c over = to_err _ res c (length vs, vs, reach_all at s.0 s.2, fd.few, w)
  whole_told (Err f) s w res Q c over = to_err _ res c (length vs, vs, reach_all f.at s.0 s.2, fd.few, w)

  spelled_end : (f : Formula) → words f ≡ vs → length vs ≡ length ws → Spelled r t f
  spelled_end f e h = (subst (λ l. EachSpells r l ws) (sym e) (all_spelled h), omega (arith, fd.few))

  -- the words begin a formula that has more
  open_told : (stop : Result (Option ℕ) (WordFault Cause)) → Stops r ws (length vs) stop → Unfinished vs → Told r t (Err (short_fault (length t) stop))
  open_told (Ok None) s u = (vs, all_spelled s, omega (arith, fd.few), u, refl)
  open_told (Ok (Some at)) s u = (length vs, vs, reach_all at s.0 s.2, s.1, u)
  open_told (Err f) s u = (length vs, vs, reach_all f.at s.0 s.2, s.1, u, s.3)

  shape_told : (f : ShapeFault) (res : Result Policy PolicyFault) → Makes vs (Err (F.Shape f)) → ShapeRefused x f res → Answered res
  shape_told (S.Kind k) res m h =
      to_err _ res (h (omega (arith, m.1, fd.within))) (k, take k vs, reach k m.1, omega (arith, m.1, fd.few), m.2, (get_or vs k (W.Name 0), word_spelled k m.1, λ b. m.3 (subst Begins (sym (take_more vs k (W.Name 0) m.1)) b)))
  shape_told S.Short res m h = to_err _ res h (open_told x.stop fd.stops m.1)
  shape_told (S.After k) res m h = to_err _ res (h (omega (arith, m.1, fd.within))) (k, take k vs, reach k m.1, omega (arith, m.1, fd.few), m.2)
  shape_told S.TooMany res m h = absurd (omega (arith, m, fd.few))

  pub refused_told : (f : WordsFault) (res : Result Policy PolicyFault) → Makes vs (Err f) → Refused x f res → Answered res
  refused_told (F.Shape s) res m h = shape_told s res m h
  refused_told (F.Number k) res m h = let s = word_spelled k m.2.0.0 in absurd (m.2.0.1 (operand-allowed r _ s.0 s.2))
  refused_told (F.Loose k) res m h = whole_told x.stop fd.stops (m.0, m.1) res _ h (λ e q.
      to_err _ res (q (omega (arith, e, ap length m.1, loose_below m.0 given k m.4.0))) (m.0, k, spelled_end m.0 m.1 e, m.4, refl))
  refused_told (F.Unanchored k) res m h = whole_told x.stop fd.stops (m.0, m.1) res _ h (λ e q.
      to_err _ res (q (omega (arith, e, ap length m.1, stray_below m.0 k m.5.0))) (m.0, k, spelled_end m.0 m.1 e, m.4, m.5, refl))

  pub made_told : (f : Formula) (p : Policy) (res : Result Policy PolicyFault) → Makes vs (Ok f) → Means p f → MatchResult (after_fault x.stop) (λ _. res ≡ Ok p) (λ e. res ≡ Err e) → Answered res
  made_told f p res m h c = whole_told x.stop fd.stops (f, m.0) res _ c (λ e q. (Ok f, subst (λ z. Gave z (Ok f)) (sym q) h, (spelled_end f m.0 e, m.1.closed, m.1.anchored)))
