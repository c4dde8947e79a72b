use Rattle.std.proofs.Common.{◌≡◌, ◌++◌, take, drop}
use Rattle.runs.specs.Runs.{answered, reached}
use Rattle.runs.proofs.play.play.Given as goal

abbrev pub invariant-loop-i : goal.invariant-loop-i
invariant-loop-i g l =
    let m = g.B.Reading.meaning l.initial.book in
    let cs = take l.i l.calls in
    (l.answers ≡ answered m cs ++ drop l.i l.initial.answers)
    × (g.B.Reading.meaning l.book ≡ reached m cs)
    × (g.B.Keeping.holds l.initial.book → g.B.Keeping.holds l.book)
