use Rattle.policy.specs.Nodes.{left}
use Rattle.policy.proofs.node.Node.+free_letters.Given as goal

abbrev pub decreases-free_letters : goal.decreases-free_letters
decreases-free_letters l = left l.self
