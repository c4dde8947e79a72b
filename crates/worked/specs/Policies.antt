-- Policy texts and what is told of them.
use Rattle.std.specs.Prelude.{◌≡◌, ℕ, ◌<◌, List, Some, Err, codes, Result}
use Rattle.roll.specs.Rolls.{number_of}
use Rattle.roll.specs.declared.list.List.TheVariants.{Labels}
use Rattle.roll.specs.declared.roll.Roll.{Roll}
use Rattle.policy_words.specs.Tree.{Formula}
use Rattle.policy_reader.specs.Told.{Told}
use Rattle.policy_reader.specs.declared.fault.PolicyFault.{PolicyFault}
use Rattle.policy_reader.specs.declared.fault.PolicyFault.TheVariants as P

-- this fault is told of the text, and nothing else
abbrev pub Refused : Roll → List ℕ → PolicyFault → Type 0
Refused r t e = Told r t (Err e) × ((x : Result Formula PolicyFault) → Told r t x → x ≡ Err e)

pub record Examples (r : Roll) : Type 0 where
  pub not_anchored : Refused r (codes "?q") (P.Unanchored 0)
  pub loose : Refused r (codes "@?r ?a") (P.Loose 4)
  pub short : Refused r (codes "@?r") (P.Short 3)
  pub after : Refused r (codes "@?r ?q ?q") (P.After 7)
  pub kind : Refused r (codes "@?r >buys") (P.Kind 4)
  pub empty : Refused r (codes "") (P.Short 0)

-- over any roll that has the label buys among its first 16
abbrev pub PolicyExamples : Type 0
PolicyExamples = (r : Roll) (n : ℕ) → number_of r Labels (codes "buys") ≡ Some n → n < 16 → Examples r
