use Rattle.std.proofs.Common.{rules, ap}
use Rattle.std.specs.List.{slice_get}
use Rattle.std.proofs.lemmas.Iterator.Consumers.{nth_from_yields_List}
use borrow.Author.Tests.{tests}
use Rattle.roll.specs.Lists.{numbered}
use Rattle.roll.proofs.Walks.{YieldsList-from_words}
use Rattle.roll.proofs.lookup.word_in.Goals as goal

pub returns : goal.returns
returns c =
    let all = YieldsList-from_words 64 c.args.text.now c.words.ensures.value c.take.ensures.source c.take.ensures.count in
    let e = nth_from_yields_List c.nth.result _ _ c.nth.ensures.ran all in
    let n = ap (slice_get (numbered c.args.text.now)) c.from.ensures in
    search (rules, tests, e, n)
