use Rattle.std.proofs.Common.{◌≡◌, None, sym, ◌∙◌, arith}
use Rattle.std.specs.Result.{result_err}
use Rattle.roll.proofs.Faults.{fault_passed}
use Rattle.roll.proofs.list.check_words.Goals as goal

pub loop-word-preserved : goal.loop-word-preserved
loop-word-preserved c =
    let t = c.in-Some.ensures.steps in
    let passed = c.in_ok-map_err.ensures.variant in
    let none : result_err c.check_word.result ≡ None = grind (arith, passed) in
    sym (fault_passed _ _ _ _ _ t.first (sym c.check_word.ensures.value ∙ none) t.further) ∙ c.loop-word.invariant
