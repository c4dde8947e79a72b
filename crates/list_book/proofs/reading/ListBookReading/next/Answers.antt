use Rattle.std.proofs.Common.{◌≡◌, ℕ, ◌<◌, ◌≤◌, true, false, ap, sym, subst, ◌∙◌}
use Rattle.std.specs.Prelude.{MatchOption}
use Rattle.marks.specs.MarkBoards.{counts_kept}
use Rattle.book.specs.Calls.{joins}
use Rattle.list_book.specs.ListBooks.{list_meaning, row_ties}
use Rattle.list_book.specs.Neighbours.{lowest}
use Rattle.list_book.proofs.Seeking.{lowest_is, next_told, next_in}
use Rattle.list_book.proofs.reading.ListBookReading.next.Goals as goal

pub returns : goal.returns
returns c =
    let b = c.args.self.now in
    let m = list_meaning b in
    let of = c.args.of in
    let at = c.args.at in
    let found = c.lowest.ensures ∙ ap (lowest of at) c.ties.ensures in
    let within = next_in (counts_kept b.marks) _ of at c.counts.ensures c.in_ok-check_next.ensures in
    next_told m of at c.lowest.result within
    (subst (λ o. MatchOption o ((k : ℕ) → at ≤ k → joins m of k ≡ false) (λ y. (at ≤ y) × (joins m of y ≡ true) × ((k : ℕ) → at ≤ k → k < y → joins m of k ≡ false))) (sym found) (lowest_is of at (row_ties b)))
