use Rattle.rows.specs.Rows.{Absent}
use Rattle.rows.proofs.find.Given as goal

abbrev pub invariant-loop-i : goal.invariant-loop-i
invariant-loop-i g l = Absent g.T.PartialEq.eq l.row l.i l.thing
