use Rattle.std.proofs.Common.{◌≡◌, ◌++◌, take, drop, slice_index_or, sym, subst, arith}
use Rattle.std.proofs.lemmas.List.{length-take, get_or-take}
use Rattle.runs.specs.declared.play.Call.TheVariants.{Enter}
use Rattle.runs.specs.Runs.{answer, after, answered, reached, LastDecides}
use Rattle.runs.proofs.Running.{next_answers, next_reached, last_decides}
use Rattle.runs.proofs.play.play.Goals as goal

pub loop-i-preserved : goal.loop-i-preserved
loop-i-preserved g c =
    let m = g.B.Reading.meaning c.args.book.now in
    let i = c.loop-i.i in
    let xs = c.args.calls.now in
    let old = c.args.answers.now in
    let d = Enter (record { label = 0; from = 0; to = 0 }) in
    let long = length-take c.min-n.result xs in
    let call : slice_index_or (take c.min-n.result xs) i d ≡ slice_index_or xs i d = get_or-take c.min-n.result xs i d (omega (arith, long)) in (
      next_answers m xs old i d (omega (arith, long)) (omega (arith, long)) _ _ _ c.loop-i.invariant.0 c.loop-i.invariant.1 (subst (λ k. c.step.result ≡ answer (g.B.Reading.meaning c.loop-i.book) k) call c.step.ensures.answer),
      next_reached m xs old i d (omega (arith, long)) (omega (arith, long)) _ _ c.loop-i.invariant.1 (subst (λ k. g.B.Reading.meaning c.step.new.book ≡ after (g.B.Reading.meaning c.loop-i.book) k) call c.step.ensures.after),
      λ h. c.step.ensures.held (c.loop-i.invariant.2 h),
    )

pub returns : goal.returns
returns g c =
    let m = g.B.Reading.meaning c.args.book.now in
    let xs = c.args.calls.now in
    let old = c.args.answers.now in
    let all : c.loop-i.i ≡ c.min-n.result = omega (arith, length-take c.min-n.result xs) in
    let is = subst (λ n. c.loop-i.answers ≡ answered m (take n xs) ++ drop n old) all c.loop-i.invariant.0 in
    let at = subst (λ n. g.B.Reading.meaning c.loop-i.book ≡ reached m (take n xs)) all c.loop-i.invariant.1 in
    record { count = c.min-n.ensures; answers = is; after = at; decided = subst (LastDecides m (take c.min-n.result xs)) (sym at) (last_decides m (take c.min-n.result xs)); held = c.loop-i.invariant.2 }
