use Rattle.std.proofs.Common.{vec_items, ap, arith}
use Rattle.std.specs.Vec.{with_items}
use Rattle.book.specs.Meaning.{with_ties}
use Rattle.board_book.specs.Boards.{board_meaning}
use Rattle.board_book.proofs.BoardMoves.{few_ties, Replaced, replaced_by}
use Rattle.board_book.proofs.board.BoardBook.put_tie.Goals as goal
use Rattle.board_book.proofs.board.BoardBook.put_tie.Goals.{After-replace-was}

replaced : (c : After-replace-was) → Replaced c.args.self.now c.args.tie c.replace-was.result c.args.value (vec_items (with_items c.args.self.now.words c.replace-was.new.words))
replaced c =
    replaced_by c.args.self.now c.args.tie c.place-i.result c.replace-was.result c.args.value c.requires c.place-i.ensures c.deref_mut.result.now c.replace-was.new.words c.deref_mut.ensures.value c.replace-was.auto.words c.replace-was.ensures.was c.replace-was.ensures.set

pub overflow_add-self : goal.overflow_add-self
overflow_add-self c = grind (arith, few_ties c.args.self.now)

pub overflow_sub-self : goal.overflow_sub-self
overflow_sub-self c = let r = replaced (goal.at.overflow_sub-self c).After-replace-was in omega (arith, r.count)

pub invariant_of-self : goal.invariant_of-self
invariant_of-self c =
    let r = replaced (goal.at.invariant_of-self c).After-replace-was in
    record { enough = c.args.self.now.enough; counted = omega (arith, r.count); clear = r.clear }

pub returns-clause-after : goal.returns-clause-after
returns-clause-after c = ap (with_ties (board_meaning c.args.self.now)) (replaced (goal.at.returns-clause-after c).After-replace-was).ties
