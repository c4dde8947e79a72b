use Rattle.std.proofs.Common.{◌≡◌, arith, MatchOption}
use Rattle.std.proofs.lemmas.Grind.{common_steps}
use Rattle.text.specs.Text.{words as text_words, start_of}
use Rattle.policy_reader.proofs.Finding.{nth_place}
use Rattle.policy_reader.proofs.found.Found.start_of.Goals as goal

pub returns : goal.returns
returns c = λ lt.
    let ws = text_words c.args.self.now.text.now in
    let h : MatchOption c.nth.result ⊥ (λ w. w.at ≡ start_of c.args.k ws) = nth_place ws _ _ c.args.k c.nth.result c.words.ensures.value c.words.ensures.starts c.nth.ensures.ran lt in
    grind (arith, common_steps)
