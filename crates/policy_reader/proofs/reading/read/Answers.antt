use Rattle.std.proofs.Common.{◌≡◌, Ok, Err, refl, ap, ◌∙◌, subst, MatchResult}
use Rattle.std.proofs.lemmas.Result.{err_from_is_err_and}
use Rattle.policy.specs.Policies.{Makes}
use Rattle.policy_reader.proofs.Promises.{promised}
use Rattle.policy_reader.proofs.Telling.{refused_told, made_told}
use Rattle.policy_reader.proofs.reading.read.Goals as goal

pub returns-in_err-finished-in-Ok : goal.returns-in_err-finished-in-Ok
returns-in_err-finished-in-Ok c =
    let p = err_from_is_err_and c.from_residual.result c.from_residual.ensures.1 in
    let x = c.find_words-found.result in
    let res = c.from_residual.result in
    let found = c.find_words-found.ensures in
    let m = c.in-Ok.ensures in
    promised c.args.roll.now x.text.now c.args.text.now found.text res (made_told c.args.roll.now x found.found m.0 c.in-Ok.policy res
    (subst (λ l. Makes l (Ok m.0)) c.as_slice.ensures.value m.1) m.2
    (subst (λ z. MatchResult z (λ _. res ≡ Ok c.in-Ok.policy) (λ e. res ≡ Err e)) c.in_err-finished-in-Ok.ensures (p.1 ∙ ap Err p.2)))

pub returns-in_ok-finished-in-Ok : goal.returns-in_ok-finished-in-Ok
returns-in_ok-finished-in-Ok c =
    let x = c.find_words-found.result in
    let res = Ok c.in-Ok.policy in
    let found = c.find_words-found.ensures in
    let m = c.in-Ok.ensures in
    promised c.args.roll.now x.text.now c.args.text.now found.text res (made_told c.args.roll.now x found.found m.0 c.in-Ok.policy res
    (subst (λ l. Makes l (Ok m.0)) c.as_slice.ensures.value m.1) m.2
    (subst (λ z. MatchResult z (λ _. res ≡ Ok c.in-Ok.policy) (λ e. res ≡ Err e)) c.in_ok-finished-in-Ok.ensures refl))

pub returns-in-Err : goal.returns-in-Err
returns-in-Err c =
    let x = c.find_words-found.result in
    let found = c.find_words-found.ensures in
    promised c.args.roll.now x.text.now c.args.text.now found.text c.refused.result
    (refused_told c.args.roll.now x found.found c.in-Err.fault c.refused.result (subst (λ l. Makes l (Err c.in-Err.fault)) c.as_slice.ensures.value c.in-Err.ensures) c.refused.ensures)
