use Rattle.std.proofs.Common.{length, sym, ap, ◌∙◌, subst, arith}
use Rattle.policy_words.specs.Tree.{EachAllowed}
use Rattle.policy.specs.Letters.{given}
use Rattle.policy.specs.Proper.{Proper}
use Rattle.policy.proofs.Places.{tells_loose, tells_stray, nowhere_anchored}
use Rattle.policy.proofs.Making.{Ready, ready, from_start, loose_given}
use Rattle.policy.proofs.policy.making.PolicyTryFromRefSliceWord.try_from.Goals as goal
use Rattle.policy.proofs.policy.making.PolicyTryFromRefSliceWord.try_from.Goals.{After-table-table, In_default-first_stray}

made : (c : After-table-table) → Ready c.args.words.now c.table-table.result c.in_ok-shape.ensures.told.1.0
made c = let w = c.in_ok-shape.ensures.told in ready _ _ w.1.0 w.1.1 w.0 c.table-table.ensures.long c.table-table.ensures.entries

pub invariant_of-formula : goal.invariant_of-formula
invariant_of-formula c =
    let m = made (goal.at.invariant_of-formula c).After-table-table in
    record { few = m.few; formula = ∣ (_, m.stands) ∣₁ }

pub returns-in-Some-first_loose : goal.returns-in-Some-first_loose
returns-in-Some-first_loose c =
    let w = c.in_ok-shape.ensures.told in
    let m = made (goal.at.returns-in-Some-first_loose c).After-table-table in
    (w.1.0, w.1.1, w.0, c.in_default.ensures, from_start _ _ _ (tells_loose w.1.0 given) (c.in-Some-first_loose.ensures w.1.0 m.stands ∙ loose_given w.1.0))

pub returns-in-Some-first_stray : goal.returns-in-Some-first_stray
returns-in-Some-first_stray c =
    let w = c.in_ok-shape.ensures.told in
    let m = made (goal.at.returns-in-Some-first_stray c).After-table-table in (
      w.1.0,
      w.1.1,
      w.0,
      c.in_default.ensures,
      from_start _ _ _ (tells_loose w.1.0 given) (c.in_default-first_loose.ensures w.1.0 m.stands ∙ loose_given w.1.0),
      from_start _ _ _ (tells_stray w.1.0) (c.in-Some-first_stray.ensures w.1.0 m.stands),
    )

proper : (c : In_default-first_stray) → Proper c.in_ok-shape.ensures.told.1.0
proper c =
    let w = c.in_ok-shape.ensures.told in
    let m = ready _ _ w.1.0 w.1.1 w.0 c.table-table.ensures.long c.table-table.ensures.entries in
    record {
      few = omega (arith, w.0, ap length w.1.1);
      allowed = subst EachAllowed (sym w.1.1) (c.in_default.ensures);
      closed = from_start _ _ _ (tells_loose w.1.0 given) (c.in_default-first_loose.ensures w.1.0 m.stands ∙ loose_given w.1.0);
      anchored = nowhere_anchored _ (from_start _ _ _ (tells_stray w.1.0) (c.in_default-first_stray.ensures w.1.0 m.stands));
    }

pub invariant_of-result : goal.invariant_of-result
invariant_of-result c =
    let w = c.in_ok-shape.ensures.told in
    let m = made (goal.at.invariant_of-result c).After-table-table in
    record { fits = w.0; whole = ∣ (w.1.0, m.whole, proper (goal.at.invariant_of-result c).In_default-first_stray) ∣₁ }

pub returns : goal.returns
returns c =
    let w = c.in_ok-shape.ensures.told in
    let m = made (goal.at.returns c).After-table-table in
    (w.1.0, (w.1.1, proper (goal.at.returns c).In_default-first_stray), m.whole)
