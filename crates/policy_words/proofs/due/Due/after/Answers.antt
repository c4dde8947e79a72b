use Rattle.std.proofs.Common.{inl, inr, sym, arith}
use Rattle.policy_words.proofs.Rows.{path_turns, formula_turns, path_stuck, formula_stuck}
use Rattle.policy_words.proofs.due.Due.after.Goals as goal

pub returns-in_err-rest-clause-row : goal.returns-in_err-rest-clause-row
returns-in_err-rest-clause-row c = rw c.from_residual.ensures (path_stuck _ _ _ (sym c.if-is_path.ensures) (omega (arith, c.in_err-rest.ensures)))

pub returns-in_ok-rest-clause-row : goal.returns-in_ok-rest-clause-row
returns-in_ok-rest-clause-row c = let told = c.takes-takes.ensures in let rest = c.in_ok-rest.ensures in path_turns _ _ _ _ (sym c.if-is_path.ensures) (omega (arith, rest)) (omega (arith, told.paths, rest))

pub returns-then-self-gt0-clause-row : goal.returns-then-self-gt0-clause-row
returns-then-self-gt0-clause-row c = formula_stuck _ _ _ (sym c.if-is_path.ensures) (inl c.if-self-gt0.true)

pub returns-in_err-rest-2-clause-row : goal.returns-in_err-rest-2-clause-row
returns-in_err-rest-2-clause-row c = rw c.from_residual-in_err-rest-2.ensures (formula_stuck _ _ _ (sym c.if-is_path.ensures) (inr (omega (arith, c.in_err-rest-2.ensures))))

pub returns-in_ok-rest-2-clause-row : goal.returns-in_ok-rest-2-clause-row
returns-in_ok-rest-2-clause-row c = let told = c.takes-takes.ensures in let rest = c.in_ok-rest-2.ensures in formula_turns _ _ _ _ _ (sym c.if-is_path.ensures) (omega arith) (omega (arith, rest)) told.paths (omega (arith, told.formulas, rest))
