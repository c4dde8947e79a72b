-- The faults of the worked texts.
use Rattle.std.proofs.Common.{ℕ, List, [], ◌∷◌, ◌++◌, Err, codes, refl, arith}
use Rattle.text.specs.Word.{Fine}
use Rattle.text.proofs.Words.{decides_plain}
use Rattle.roll.specs.declared.roll.Roll.{Roll}
use Rattle.policy_words.specs.Tree.{Begins, Unfinished}
use Rattle.policy_words.specs.Tree.Formula.{is, same, at_letter}
use Rattle.policy_words.specs.Due.{Owes}
use Rattle.policy_words.specs.declared.word.Letter.TheVariants as L
use Rattle.policy_words.specs.declared.word.Word.TheVariants as W
use Rattle.policy_words.proofs.Rows.{owes_start, owes_more, owes_stuck, formula_turns, path_stuck}
use Rattle.policy.specs.Letters.{given}
use Rattle.policy.proofs.Places.{tells_loose, tells_stray}
use Rattle.policy_reader.specs.Told.{Told}
use Rattle.policy_reader.specs.declared.fault.PolicyFault.{PolicyFault}
use Rattle.policy_reader.specs.declared.fault.PolicyFault.TheVariants as P
use Rattle.policy_reader.proofs.OneAnswer.{one_answer}
use Rattle.worked.specs.Policies.{Refused, PolicyExamples}

alone : (r : Roll) (t : List ℕ) (e : PolicyFault) → Told r t (Err e) → Refused r t e
alone r t e h = (h, λ x g. one_answer r t x (Err e) g h)

one_due : Owes (W.AtLetter L.Resource ∷ []) 0 1
one_due = owes_more [] (W.AtLetter L.Resource) 0 1 0 1 owes_start (formula_turns (W.AtLetter L.Resource) 0 1 0 1 refl refl (omega arith) refl refl)

no_path : (n : ℕ) → Begins ((W.AtLetter L.Resource ∷ []) ++ W.Forward n ∷ []) → ⊥
no_path n b = owes_stuck (W.AtLetter L.Resource ∷ []) (W.Forward n) 0 1 one_due (path_stuck (W.Forward n) 0 1 refl refl) b

begun : Unfinished (W.AtLetter L.Resource ∷ [])
begun = (at_letter L.Resource (same L.Requester), W.Letter L.Requester, [], refl)

fine : Fine (codes "buys")
fine = ((decides_plain (codes "buys")).0 refl, (omega arith, omega arith))

pub examples : PolicyExamples
examples r n e lt = record {
  not_anchored = alone r (codes "?q") (P.Unanchored 0) (same L.Requester, 0, (((codes "q", refl, refl), tt), omega arith), tells_loose (same L.Requester) given, tells_stray (same L.Requester), refl);
  loose = alone r (codes "@?r ?a") (P.Loose 4) (at_letter L.Resource (same L.A), 1, (((codes "r", refl, refl), ((codes "a", refl, refl), tt)), omega arith), tells_loose (at_letter L.Resource (same L.A)) given, refl);
  short = alone r (codes "@?r") (P.Short 3) (W.AtLetter L.Resource ∷ [], ((codes "r", refl, refl), tt), omega arith, begun, refl);
  after = alone r (codes "@?r ?q ?q") (P.After 7) (2, W.AtLetter L.Resource ∷ W.Letter L.Requester ∷ [], record { there = omega arith; place = refl; before = ((codes "r", refl, refl), ((codes "q", refl, refl), tt)) }, omega arith, (at_letter L.Resource (same L.Requester), refl));
  kind = alone r (codes "@?r >buys") (P.Kind 4) (1, W.AtLetter L.Resource ∷ [], record { there = omega arith; place = refl; before = ((codes "r", refl, refl), tt) }, omega arith, begun, (W.Forward n, (codes "buys", refl, record { fine = fine; is = e; few = lt }), no_path n));
  empty = alone r (codes "") (P.Short 0) ([], tt, omega arith, (is 0, W.Name 0, [], refl), refl);
}
