use Rattle.std.proofs.Common.{refl, arith}
use Rattle.policy_words.specs.Tree.{words}
use Rattle.policy_words.proofs.Allows.{each_allows}
use Rattle.policy.specs.Policies.{built_in}
use Rattle.policy.specs.Anchor.Anchored.{not as a_not, at_requester}
use Rattle.policy.proofs.Places.{tells_loose}
use Rattle.policy.specs.Letters.{given}
use Rattle.policy.proofs.policy.Policy.built_in.Goals as goal

pub invariant_of-result : goal.invariant_of-result
invariant_of-result c =
    record {
      fits = omega arith;
      whole = ∣ (built_in, refl, record { few = omega arith; allowed = each_allows (words built_in) refl; closed = tells_loose built_in given; anchored = a_not _ (at_requester _) }) ∣₁;
    }
