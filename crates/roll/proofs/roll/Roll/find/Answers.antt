use Rattle.std.proofs.Common.{◌≡◌, rules, ◌∙◌}
use Rattle.roll.specs.Rolls.{number_of}
use Rattle.roll.proofs.Rolls.{number_back, number_again}
use Rattle.roll.proofs.roll.Roll.find.Goals as goal

pub returns-clause-back : goal.returns-clause-back
returns-clause-back c =
    let is : c.number_in.result ≡ number_of c.args.self.now c.args.list c.args.word.now = search rules in
    number_back c.args.self.now c.args.list c.args.word.now _ is

pub returns-clause-again : goal.returns-clause-again
returns-clause-again c =
    let is : c.number_in.result ≡ number_of c.args.self.now c.args.list c.args.word.now = search rules in
    λ n e. is ∙ number_again c.args.self.now c.args.list c.args.word.now n e
