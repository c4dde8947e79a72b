use Rattle.std.proofs.Common.{arith, rules}
use Rattle.book.specs.Calls.{mark_within}
use Rattle.marks.proofs.MarkMoves.{ranged_ok, few_marks, Replaced, replaced_by}
use Rattle.marks.proofs.mark_board.MarkBoard.put_mark.Goals as goal
use Rattle.marks.proofs.mark_board.MarkBoard.put_mark.Goals.{After-replace-was}

replaced : (c : After-replace-was) → Replaced c.args.self.now c.args.fact c.replace-was.result c.args.value c.replace-was.new.words
replaced c =
    let within = ranged_ok (mark_within c.args.self.now.counts c.args.fact) tt c.in_ok-check_mark.ensures in
    replaced_by c.args.self.now c.args.fact c.place.result c.replace-was.result c.args.value c.replace-was.new.words within c.place.ensures (search rules) c.replace-was.ensures.was c.replace-was.ensures.set

pub overflow_add-self : goal.overflow_add-self
overflow_add-self c = grind (arith, few_marks c.args.self.now)

pub overflow_sub-self : goal.overflow_sub-self
overflow_sub-self c = let r = replaced (goal.at.overflow_sub-self c).After-replace-was in omega (arith, r.count)

pub invariant_of-self-clause-counted : goal.invariant_of-self-clause-counted
invariant_of-self-clause-counted c = let r = replaced (goal.at.invariant_of-self-clause-counted c).After-replace-was in omega (arith, r.count)

pub returns-clause-after : goal.returns-clause-after
returns-clause-after c = (replaced (goal.at.returns-clause-after c).After-replace-was).marks
