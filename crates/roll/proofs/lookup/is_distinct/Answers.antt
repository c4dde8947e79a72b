use Rattle.std.proofs.Common.{rules}
use Rattle.std.proofs.lemmas.Iterator.{cases_from_all}
use Rattle.std.proofs.lemmas.Iterator.Consumers.{YieldsList-at, YieldsList-from_enumerate}
use borrow.Author.Tests.{tests}
use Rattle.text.specs.Text.{words}
use Rattle.roll.proofs.Walks.{YieldsList-from_words, New, each_new}
use Rattle.roll.proofs.lookup.is_distinct.Goals as goal

pub returns : goal.returns
returns c =
    let ws = words c.args.text.now in
    let all = YieldsList-from_words 64 c.args.text.now c.words.ensures.value c.take.ensures.source c.take.ensures.count in
    let pairs = YieldsList-from_enumerate (YieldsList-at c.enumerate.ensures.source all) c.enumerate.ensures.count in
    let e = cases_from_all _ _ _ (New ws) (λ p. New ws p → ⊥) c.all.ensures.ran pairs (λ x q k. search (rules, tests)) (λ x q k. search (rules, tests)) in
    each_new 64 ws c.all.result e
