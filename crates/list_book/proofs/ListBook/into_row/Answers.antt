use Rattle.list_book.proofs.Moves.{holds_ties}
use Rattle.list_book.proofs.ListBook.into_row.Goals as goal

pub returns-clause-ties : goal.returns-clause-ties
returns-clause-ties c = holds_ties c.args.self
