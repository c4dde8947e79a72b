use Rattle.std.proofs.Common.{◌≡◌}
use Rattle.text.specs.Text.{words}
use Rattle.text.specs.Left.{left, start}
use Rattle.roll.specs.Lists.{first_fault}
use Rattle.roll.proofs.list.check_words.Given as goal

abbrev pub invariant-loop-word : goal.invariant-loop-word
invariant-loop-word l = first_fault (start l.word-iterator) (left l.word-iterator) ≡ first_fault 0 (words l.text)
