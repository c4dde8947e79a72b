use Rattle.std.proofs.Common.{◌≡◌, ◌<◌, Some, length, option_map, rules}
use Rattle.roll.specs.Rolls.{words_of, word_of, number_of}
use Rattle.roll.proofs.Rolls.{word_number, lent}
use Rattle.roll.proofs.roll.Roll.word.Goals as goal

pub returns-clause-there : goal.returns-clause-there
returns-clause-there c =
    let r = c.args.self.now in
    let n = c.args.number in
    let is : option_map (λ x. x.now) c.word_in.result ≡ word_of r c.args.list n = search rules in
    lent (λ x. x.now) c.word_in.result _ (λ w. (n < length (words_of r c.args.list)) × (number_of r c.args.list w ≡ Some n)) (word_number r c.args.list n _ is)
