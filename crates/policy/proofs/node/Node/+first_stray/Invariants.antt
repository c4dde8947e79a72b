use Rattle.policy.specs.Nodes.{left}
use Rattle.policy.proofs.node.Node.+first_stray.Given as goal

abbrev pub decreases-first_stray : goal.decreases-first_stray
decreases-first_stray l = left l.self
