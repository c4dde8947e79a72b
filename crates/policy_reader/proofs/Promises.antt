-- What is promised of an answer that was given: it is to be told, it alone, and its numbers are below the counts of the roll.
use Rattle.std.proofs.Common.{◌≡◌, ℕ, List, Ok, Result, subst}
use Rattle.roll.specs.Rolls.{counts_of}
use Rattle.roll.specs.declared.roll.Roll.{Roll}
use Rattle.policy_words.specs.Tree.{Formula, words}
use Rattle.policy.specs.declared.policy.Policy.{Policy}
use Rattle.policy_reader.specs.Told.{Gave, Told, EachBelow}
use Rattle.policy_reader.specs.declared.fault.PolicyFault.{PolicyFault}
use Rattle.policy_reader.proofs.Counted.{each_below}
use Rattle.policy_reader.proofs.OneAnswer.{only_given}

pub promised : (r : Roll) (s t : List ℕ) → s ≡ t → (res : Result Policy PolicyFault) → (x : Result Formula PolicyFault) × Gave res x × Told r s x → record { told : (x : Result Formula PolicyFault) × Gave res x × Told r t x; only : (x : Result Formula PolicyFault) → Told r t x → Gave res x; counted : (f : Formula) → Told r t (Ok f) → EachBelow (counts_of r) (words f) }
promised r s t e res g =
    let told : (x : Result Formula PolicyFault) × Gave res x × Told r t x = subst (λ u. (x : Result Formula PolicyFault) × Gave res x × Told r u x) e g in
    record { told = told; only = only_given r t res told; counted = each_below r t }
