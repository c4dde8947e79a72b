use Rattle.std.proofs.Common.{subst, arith}
use Rattle.rows.specs.Rows.{Finds}
use Rattle.marks.specs.MarkBoards.{counts_kept}
use Rattle.book.specs.Ties.{same_tie}
use Rattle.list_book.specs.ListBooks.{row_ties}
use Rattle.list_book.proofs.Times.{find_tells}
use Rattle.list_book.proofs.Moves.{tie_in}
use Rattle.list_book.proofs.reading.ListBookReading.has_tie.Goals as goal

pub returns : goal.returns
returns c =
    let b = c.args.self.now in
    let t = c.args.tie in
    let found = find_tells (row_ties b) t c.find.result (subst (λ ys. Finds same_tie ys t c.find.result) c.ties.ensures c.find.ensures) in
    let within = tie_in (counts_kept b.marks) _ t c.counts.ensures c.in_ok-check_tie.ensures in
    grind (arith, found, within, c.is_some.ensures)
