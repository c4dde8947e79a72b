use Rattle.std.proofs.Common.{rules}
use Rattle.std.proofs.lemmas.Bool.Decides.{Decides-at}
use Rattle.std.proofs.lemmas.Iterator.{YieldsList-from_slice}
use Rattle.std.proofs.lemmas.Iterator.Search.{all_from_yields_List}
use borrow.Author.Tests.{tests}
use Rattle.text.specs.Word.{plain_byte}
use Rattle.text.proofs.Words.{decides_plain}
use Rattle.text.proofs.word.is_plain.Goals as goal

pub returns-clause-means : goal.returns-clause-means
returns-clause-means c =
    let e = all_from_yields_List plain_byte _ _ _ c.all.ensures.ran (YieldsList-from_slice _ c.iter.ensures.rest) (λ x b q k. search (rules, tests)) in
    Decides-at _ _ e (decides_plain c.args.bytes.now)
