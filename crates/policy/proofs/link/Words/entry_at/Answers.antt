use Rattle.std.proofs.Common.{◌+◌, arith}
use Rattle.policy.proofs.Subtrees.{rooted, operand, kids}
use Rattle.policy.proofs.link.Words.entry_at.Goals as goal

pub returns-then-operands-eq2 : goal.returns-then-operands-eq2
returns-then-operands-eq2 c = record {
  heads = λ t rest h.
      let ws = c.args.self.now in
      let s = rooted ws c.args.at c.in-Some.field-0.now _ t rest (rw c.self.view_is at c.in-Some.ensures.lookup.1) h in
      let k = operand ws (c.args.at + 1) 0 (kids t) rest (omega (arith, s.count, c.operands.ensures, c.if-operands-eq2.true)) s.then in
      let told = c.end_of.ensures.ends _ _ k.at in
      grind arith;
}
