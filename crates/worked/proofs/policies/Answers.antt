use Rattle.worked.proofs.Texts.{examples}
use Rattle.worked.proofs.policies.Goals as goal

pub returns : goal.returns
returns c = examples
