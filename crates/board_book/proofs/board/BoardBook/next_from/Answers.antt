use Rattle.std.proofs.Common.{true, false, ap, rules}
use Rattle.std.proofs.lemmas.Iterator.{first_from_Range}
use Rattle.board_book.proofs.RowLaws.{Told, lowest_found}
use Rattle.board_book.proofs.board.BoardBook.next_from.Goals as goal

pub returns : goal.returns
returns c =
    let told = Told c.args.self.now c.args.of in
    lowest_found c.args.self.now c.args.of c.args.at c.counts.result.names c.find.result (ap (λ x. x.names) c.counts.ensures) c.requires
    (first_from_Range _ _ _ c.find.result (told true) (told false) c.find.ensures.ran (λ x q k. search rules) (λ x q k. search rules))
