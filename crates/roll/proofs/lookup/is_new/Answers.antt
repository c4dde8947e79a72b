use Rattle.std.proofs.Common.{◌≡◌, ◌≢◌, take, rules}
use Rattle.std.proofs.lemmas.Iterator.{cases_from_all}
use borrow.Author.Tests.{tests}
use Rattle.text.specs.Text.{words}
use Rattle.roll.proofs.Walks.{YieldsList-from_words, all_others}
use Rattle.roll.proofs.lookup.is_new.Goals as goal

pub returns : goal.returns
returns c =
    let w = c.args.word.now in
    let all = YieldsList-from_words c.args.before c.args.text.now c.words.ensures.value c.take.ensures.source c.take.ensures.count in
    let e = cases_from_all _ _ _ (λ v. v ≢ w) (λ v. v ≡ w) c.all.ensures.ran all (λ x q k. search (rules, tests)) (λ x q k. search (rules, tests)) in
    all_others w (take c.args.before (words c.args.text.now)) c.all.result e
