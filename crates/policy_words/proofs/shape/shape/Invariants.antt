use Rattle.std.proofs.Common.{◌+◌, ◌≤◌, take}
use Rattle.policy_words.specs.Due.{Owes}
use Rattle.policy_words.proofs.shape.shape.Given as goal

abbrev pub invariant-loop-k : goal.invariant-loop-k
invariant-loop-k l = Owes (take l.k l.words) l.due.paths l.due.formulas × (l.due.paths + l.due.formulas ≤ l.k + 1)
