use Rattle.std.proofs.Common.{sym, subst}
use Rattle.book.specs.Limits.{Within}
use Rattle.book_laws.proofs.Moves.{fun_ext2}
use Rattle.marks.proofs.MarkMoves.{made_within, unmarked, unmarked_counted}
use Rattle.marks.proofs.mark_board.MarkBoard.new.Goals as goal

pub invariant_of-result : goal.invariant_of-result
invariant_of-result c = record {
  within = subst Within (sym c.or_least.ensures) (made_within c.args.counts);
  counted = unmarked_counted c.or_least.result 16;
}

pub returns-clause-none : goal.returns-clause-none
returns-clause-none c = fun_ext2 (unmarked c.or_least.result 16)
