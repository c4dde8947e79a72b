use Rattle.std.proofs.Common.{rules, bytes_eq}
use Rattle.std.proofs.lemmas.Iterator.Search.{position_from_yields_List}
use borrow.Author.Tests.{tests}
use Rattle.roll.proofs.Walks.{YieldsList-from_words}
use Rattle.roll.proofs.lookup.place_in.Goals as goal

pub returns-clause-value : goal.returns-clause-value
returns-clause-value c =
    let w = c.args.word.now in
    let all = YieldsList-from_words 64 c.args.text.now c.words.ensures.value c.take.ensures.source c.take.ensures.count in
    position_from_yields_List (λ v. bytes_eq v w) _ _ _ c.position.ensures.ran all (λ x b q k. search (rules, tests))
