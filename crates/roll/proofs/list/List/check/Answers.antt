use Rattle.std.proofs.Common.{◌≡◌, is_err, false, None, rules}
use Rattle.std.specs.Result.{result_err}
use Rattle.std.proofs.lemmas.Bool.Decides.{not_from_Decides}
use Rattle.book.specs.Limits.{checked}
use Rattle.text.specs.Text.{words}
use Rattle.roll.specs.Lists.{alone, first_fault, list_fault}
use Rattle.roll.proofs.Faults.{list_as_told, list_told_only, repeated, accepted}
use Rattle.roll.proofs.list.List.check.Goals as goal
use Rattle.roll.proofs.list.List.check.Goals.{After-is_distinct}

pub returns-in_err-check_words-clause-told : goal.returns-in_err-check_words-clause-told
returns-in_err-check_words-clause-told c =
    let ws = words c.args.text.now in
    let e : result_err c.from_residual.result ≡ list_fault c.args.self ws = search rules in
    (list_as_told c.args.self ws _ e).0

pub returns-in_err-check_words-clause-only : goal.returns-in_err-check_words-clause-only
returns-in_err-check_words-clause-only c =
    let ws = words c.args.text.now in
    let e : result_err c.from_residual.result ≡ list_fault c.args.self ws = search rules in
    λ x h. list_told_only c.args.self ws _ x e h

pub returns-in_err-check-clause-told : goal.returns-in_err-check-clause-told
returns-in_err-check-clause-told c =
    let ws = words c.args.text.now in
    let e : result_err c.from_residual-in_err-check.result ≡ list_fault c.args.self ws = search rules in
    (list_as_told c.args.self ws _ e).0

pub returns-in_err-check-clause-only : goal.returns-in_err-check-clause-only
returns-in_err-check-clause-only c =
    let ws = words c.args.text.now in
    let e : result_err c.from_residual-in_err-check.result ≡ list_fault c.args.self ws = search rules in
    λ x h. list_told_only c.args.self ws _ x e h

pub returns-then-not-is_distinct : goal.returns-then-not-is_distinct
returns-then-not-is_distinct c =
    let ws = words c.args.text.now in
    let list = c.args.self in
    let fine : first_fault 0 ws ≡ None = search rules in
    let v = repeated list ws _ c.count_in-count.ensures fine (not_from_Decides _ c.is_distinct.ensures c.if-not-is_distinct.true) in
    record { value = v; count = tt; told = (list_as_told list ws _ v).0; only = λ x h. list_told_only list ws _ x v h }

pub returns : goal.returns
returns c =
    let ws = words c.args.text.now in
    let list = c.args.self in
    let fine : first_fault 0 ws ≡ None = search rules in
    let within : is_err (checked (alone list c.count_in-count.result)) ≡ false = search rules in
    let v = accepted list ws _ c.count_in-count.ensures fine within (c.is_distinct.ensures.0 c.if-not-is_distinct.false) in
    record { value = v; count = search rules; told = (list_as_told list ws _ v).0; only = λ x h. list_told_only list ws _ x v h }
