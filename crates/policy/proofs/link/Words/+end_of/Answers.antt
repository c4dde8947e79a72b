use Rattle.std.proofs.Common.{arith}
use Rattle.policy.proofs.Subtrees.{rooted, inside, past, operand, kids}
use Rattle.policy.proofs.link.Words.+end_of.Goals as goal

pub returns-in_default-clause-ends : goal.returns-in_default-clause-ends
returns-in_default-clause-ends t c = λ x rest h. let n = inside c.args.self.now c.args.at x rest h in grind arith

pub loop-preserved : goal.loop-preserved
loop-preserved t c = record {
  rises = grind arith;
  within = grind arith;
  others = λ x rest h.
      let ws = c.args.self.now in
      let o = c.loop.invariant.others x rest h in
      let s = rooted ws c.args.at c.in-Some.word.now _ x rest (rw c.self.view_is at c.in-Some.ensures.lookup.1) h in
      let k = operand ws c.loop.next c.loop.counter (kids x) rest (omega (arith, c.loop-test.true, s.count, c.operands-end.ensures)) o.0 in
      let told = c.end_of-next.ensures.ends _ _ k.at in
      let behind = past ws c.loop.next _ _ k.at in
      (cc, omega arith);
}
