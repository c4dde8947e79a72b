use Rattle.std.proofs.Common.{arith}
use Rattle.board_book.proofs.BoardMoves.{never_full}
use Rattle.board_book.proofs.keeping.BoardBookKeeping.enter.Goals as goal

pub returns-clause-answer : goal.returns-clause-answer
returns-clause-answer c = grind (arith, never_full c.args.self.now c.args.tie)

pub returns-clause-after : goal.returns-clause-after
returns-clause-after c = grind (arith, never_full c.args.self.now c.args.tie, c.put_tie.ensures.after)
