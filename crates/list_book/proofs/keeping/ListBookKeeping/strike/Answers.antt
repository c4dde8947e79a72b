use Rattle.std.proofs.Common.{◌≡◌, false, None, sym, ap, subst, arith}
use Rattle.std.proofs.lemmas.Bool.Decides.{nat_tests}
use Rattle.rows.specs.Rows.{FirstAt, Finds}
use Rattle.book.specs.Calls.{has, ranged}
use Rattle.marks.specs.MarkBoards.{counts_kept}
use Rattle.book_laws.proofs.Moves.{struck_by, struck-absent}
use Rattle.book.specs.Ties.{same_tie}
use Rattle.list_book.specs.ListBooks.{list_meaning, row_ties}
use Rattle.list_book.proofs.Times.{absent_times, found_times}
use Rattle.list_book.proofs.Moves.{tie_in, struck_moved, taken_out, left_absent, removed, removed_stand}
use Rattle.list_book.proofs.keeping.ListBookKeeping.strike.Goals as goal

pub invariant_of-self : goal.invariant_of-self
invariant_of-self c =
    let b = c.args.self.now in
    let t = c.args.tie in
    let n = counts_kept b.marks in
    let w = tie_in n _ t c.counts.ensures c.in_ok-check_tie.ensures in
    let found = subst (λ ys. FirstAt same_tie ys t c.in-Some.i) c.ties.ensures c.in-Some.ensures in
    let moved = struck_moved b t c.index-last.result.now c.in-Some.i found c.index-last.ensures in
    let some = found_times (row_ties b) t c.in-Some.i found in
    let s = removed_stand n (row_ties b) t b.once _ moved b.used w some b.inside b.counted in
    record { room = b.room; front = omega (arith, b.front); once = s.0; inside = s.1.0; counted = s.1.1.0 }

pub returns-in-Some : goal.returns-in-Some
returns-in-Some c =
    let b = c.args.self.now in
    let t = c.args.tie in
    let m = list_meaning b in
    let n = counts_kept b.marks in
    let w = tie_in n _ t c.counts.ensures c.in_ok-check_tie.ensures in
    let found = subst (λ ys. FirstAt same_tie ys t c.in-Some.i) c.ties.ensures c.in-Some.ensures in
    let moved = struck_moved b t c.index-last.result.now c.in-Some.i found c.index-last.ensures in
    record {
      answer = sym (ap ranged w);
      after = struck_by m t _ w (removed n (row_ties b) t b.once _ moved);
      row = taken_out b t c.index-last.result.now c.in-Some.i found c.index-last.ensures;
    }

pub returns-in_default : goal.returns-in_default
returns-in_default c =
    let b = c.args.self.now in
    let t = c.args.tie in
    let m = list_meaning b in
    let w = tie_in (counts_kept b.marks) _ t c.counts.ensures c.in_ok-check_tie.ensures in
    let none = absent_times (row_ties b) t (subst (λ ys. Finds same_tie ys t None) c.ties.ensures c.in_default.ensures) in
    let absent : has m t ≡ false = grind (arith, nat_tests, none) in
    record { answer = sym (ap ranged w); after = struck-absent m t w absent; row = left_absent b t absent }
