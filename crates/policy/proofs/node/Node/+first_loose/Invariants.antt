use Rattle.policy.specs.Nodes.{left}
use Rattle.policy.proofs.node.Node.+first_loose.Given as goal

abbrev pub decreases-first_loose : goal.decreases-first_loose
decreases-first_loose l = left l.self
