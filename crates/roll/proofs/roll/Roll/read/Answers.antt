use Rattle.std.proofs.Common.{◌≡◌, None, rules}
use Rattle.std.specs.Result.{result_err}
use Rattle.roll.specs.Rolls.{roll_fault}
use Rattle.roll.proofs.Rolls.{roll_as_told, roll_told_only, sound}
use Rattle.roll.proofs.roll.Roll.read.Goals as goal

pub returns-in_err-check_list-clause-only : goal.returns-in_err-check_list-clause-only
returns-in_err-check_list-clause-only c =
    let n = c.args.names.now in
    let l = c.args.labels.now in
    let m = c.args.marks.now in
    let e : result_err c.from_residual.result ≡ roll_fault n l m = search rules in
    λ x h. roll_told_only n l m _ x e h

pub returns-in_err-check_list-2-clause-only : goal.returns-in_err-check_list-2-clause-only
returns-in_err-check_list-2-clause-only c =
    let n = c.args.names.now in
    let l = c.args.labels.now in
    let m = c.args.marks.now in
    let e : result_err c.from_residual-in_err-check_list-2.result ≡ roll_fault n l m = search rules in
    λ x h. roll_told_only n l m _ x e h

pub returns-in_err-check_list-3-clause-only : goal.returns-in_err-check_list-3-clause-only
returns-in_err-check_list-3-clause-only c =
    let n = c.args.names.now in
    let l = c.args.labels.now in
    let m = c.args.marks.now in
    let e : result_err c.from_residual-in_err-check_list-3.result ≡ roll_fault n l m = search rules in
    λ x h. roll_told_only n l m _ x e h

pub returns-clause-sound : goal.returns-clause-sound
returns-clause-sound c = sound record {
  names = c.args.names;
  labels = c.args.labels;
  marks = c.args.marks;
  names_fine = c.in_ok-check_list.ensures;
  labels_fine = c.in_ok-check_list-2.ensures;
  marks_fine = c.in_ok-check_list-3.ensures;
}

pub returns-clause-told : goal.returns-clause-told
returns-clause-told c =
    let n = c.args.names.now in
    let l = c.args.labels.now in
    let m = c.args.marks.now in
    let e : None ≡ roll_fault n l m = search rules in
    (roll_as_told n l m None e).0

pub returns-clause-only : goal.returns-clause-only
returns-clause-only c =
    let n = c.args.names.now in
    let l = c.args.labels.now in
    let m = c.args.marks.now in
    let e : None ≡ roll_fault n l m = search rules in
    λ x h. roll_told_only n l m None x e h
