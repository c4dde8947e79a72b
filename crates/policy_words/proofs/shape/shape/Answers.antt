use Rattle.std.proofs.Common.{◌≡◌, None, refl, sym, subst, rules, arith}
use Rattle.std.proofs.lemmas.Bool.{iff_false}
use Rattle.std.proofs.lemmas.List.{take_more, take_all}
use Rattle.std.proofs.lemmas.Result.{err_from_is_err_and}
use Rattle.policy_words.specs.Tree.{Whole, Begins, Unfinished}
use Rattle.policy_words.specs.declared.shape.ShapeFault.TheVariants.{Kind}
use Rattle.policy_words.specs.Due.{Owes}
use Rattle.policy_words.proofs.Rows.{owes_start, owes_none, owes_unfinished, owes_stuck, owes_more}
use Rattle.policy_words.proofs.shape.shape.Goals as goal

pub loop-k-init : goal.loop-k-init
loop-k-init c = (owes_start, omega arith)

pub loop-k-preserved : goal.loop-k-preserved
loop-k-preserved c =
    let row = rw c.in_ok-due.ensures.ok_part at c.after.ensures.row in
    let few = rw c.in_ok-due.ensures.ok_part at c.after.ensures.few in (
      subst (λ l. Owes l c.in_ok-due.due.paths c.in_ok-due.due.formulas) (sym (take_more _ _ _ c.loop-k-test.true)) (owes_more _ _ _ _ _ _ c.loop-k.invariant.0 row),
      omega (arith, few),
    )

pub returns-then-is_empty-clause-told : goal.returns-then-is_empty-clause-told
returns-then-is_empty-clause-told c = (omega arith, c.loop-k-test.true, owes_none _ _ _ c.loop-k.invariant.0 (c.if-is_empty.ensures.0 refl))

pub returns-in_err-due-clause-told : goal.returns-in_err-due-clause-told
returns-in_err-due-clause-told c =
    let p = err_from_is_err_and c.from_residual.result c.from_residual.ensures.1 in
    let none : c.after.result ≡ None = search (rules, c.in_err-due.ensures.variant) in
    let stuck = rw none at c.after.ensures.row in
    let value = rw none at c.in_err-due.ensures.value in
    let fault : c.in_err-due.field-0.0 ≡ Kind c.loop-k.k = cc in
    let o = c.loop-k.invariant.0 in
    rw (p.1, p.2, fault) (
      omega arith,
      c.loop-k-test.true,
      owes_unfinished _ _ _ o (iff_false c.if-is_empty.ensures refl),
      λ b. owes_stuck _ _ _ _ o stuck (subst Begins (take_more _ _ _ c.loop-k-test.true) b),
    )

pub returns-then-is_empty-2-clause-told : goal.returns-then-is_empty-2-clause-told
returns-then-is_empty-2-clause-told c = (omega arith, subst Whole (take_all _ _ c.loop-k-test.false) (owes_none _ _ _ c.loop-k.invariant.0 (c.if-is_empty-2.ensures.0 refl)))

pub returns-else-is_empty-2-clause-told : goal.returns-else-is_empty-2-clause-told
returns-else-is_empty-2-clause-told c = (omega arith, subst Unfinished (take_all _ _ c.loop-k-test.false) (owes_unfinished _ _ _ c.loop-k.invariant.0 (iff_false c.if-is_empty-2.ensures refl)))
