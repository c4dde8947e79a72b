use Rattle.std.proofs.Common.{◌≡◌, ◌+◌, ◌≤◌, true, false, sym, ap, ◌∙◌, subst, arith}
use Rattle.std.proofs.lemmas.Bool.Decides.{nat_tests}
use Rattle.book.specs.Meaning.{with_ties, ties_of}
use Rattle.book.specs.Calls.{has}
use Rattle.book.specs.Ties.{same_tie}
use Rattle.marks.specs.MarkBoards.{counts_kept}
use Rattle.book.specs.declared.refusal.EnterRefusal.TheVariants.{Full}
use Rattle.book_laws.proofs.Moves.{entered_by, entered-there, entered_refused, entering-there, entering_room, entering_full}
use Rattle.list_book.specs.Listed.{listed}
use Rattle.list_book.specs.ListBooks.{list_meaning, row_ties}
use Rattle.list_book.proofs.Moves.{Stand, ties_stand, count, tie_in, put_behind, stood_already, none_lent, some_lent, same_front, grew_room, grew_front, full_lent, row_same, row_grew, left_there, left_refused, written, placed, placed_stand}
use Rattle.list_book.proofs.keeping.ListBookKeeping.enter.Goals as goal

pub invariant_of-self : goal.invariant_of-self
invariant_of-self c =
    let b = c.args.self.now in
    let e = same_front b c.args.tie _ c.add.new.row c.as_mut_slice-row.ensures.value c.add.auto.row c.in_err-add.ensures.2 in
    let s = subst (λ xs. Stand (counts_kept b.marks) xs b.used) (sym e) (ties_stand b) in
    record { room = b.room; front = b.front; once = s.0; inside = s.1.0; counted = s.1.1.0 }

pub returns-in_err-add : goal.returns-in_err-add
returns-in_err-add c =
    let b = c.args.self.now in
    let t = c.args.tie in
    let m = list_meaning b in
    let w = tie_in (counts_kept b.marks) _ t c.counts.ensures c.in_ok-check_tie.ensures in
    let lent = c.as_mut_slice-row.ensures.value in
    let ws = c.add.new.row in
    let none = none_lent b t _ ws lent c.add.auto.row c.in_err-add.ensures.0 in
    let absent : has m t ≡ false = grind (arith, nat_tests, none) in
    let full : m.capacity ≤ ties_of m = omega (arith, count b, full_lent b t _ ws lent c.add.auto.row c.in_err-add.ensures.1) in
    let no = entering_full m t w absent full in
    let e = same_front b t _ ws lent c.add.auto.row c.in_err-add.ensures.2 in
    record {
      answer = let r = c.from_residual-in_err-add.ensures.1 in grind (arith, r, no);
      after = ap (λ ys. with_ties m (listed ys)) e ∙ entered_refused m t Full no;
      row = row_same b t _ ws lent c.add.auto.row c.in_err-add.ensures.2 ∙ sym (left_refused b t Full no);
    }

pub invariant_of-self-then-is_none : goal.invariant_of-self-then-is_none
invariant_of-self-then-is_none c =
    let b = c.args.self.now in
    let t = c.args.tie in
    let n = counts_kept b.marks in
    let w = tie_in n _ t c.counts.ensures c.in_ok-check_tie.ensures in
    let lent = c.as_mut_slice-row.ensures.value in
    let ws = c.add.new.row in
    let put = put_behind same_tie _ ws b.used t c.in_ok-add.field-0 c.in_ok-add.ensures c.if-is_none.ensures in
    let none = none_lent b t _ ws lent c.add.auto.row put.0 in
    let e = grew_front b t _ ws lent c.add.auto.row put.1 in
    let s = subst (λ xs. Stand n xs (b.used + 1)) (sym e) (placed_stand n (row_ties b) t w b.used none (ties_stand b)) in
    record { room = b.room; front = omega (arith, grew_room b t _ ws lent c.add.auto.row put.1); once = s.0; inside = s.1.0; counted = s.1.1.0 }

pub returns-then-is_none : goal.returns-then-is_none
returns-then-is_none c =
    let b = c.args.self.now in
    let t = c.args.tie in
    let m = list_meaning b in
    let w = tie_in (counts_kept b.marks) _ t c.counts.ensures c.in_ok-check_tie.ensures in
    let lent = c.as_mut_slice-row.ensures.value in
    let ws = c.add.new.row in
    let put = put_behind same_tie _ ws b.used t c.in_ok-add.field-0 c.in_ok-add.ensures c.if-is_none.ensures in
    let e = grew_front b t _ ws lent c.add.auto.row put.1 in
    let none = none_lent b t _ ws lent c.add.auto.row put.0 in
    let ok = entering_room m t w (omega (arith, count b, grew_room b t _ ws lent c.add.auto.row put.1)) in
    record {
      answer = sym ok;
      after = entered_by m t _ ok (λ x y z. ap (λ ys. listed ys x y z) e ∙ placed (counts_kept b.marks) (row_ties b) t x y z);
      row = row_grew b t _ ws lent c.add.auto.row put.1 ∙ sym (written b t ok none);
    }

pub invariant_of-self-else-is_none : goal.invariant_of-self-else-is_none
invariant_of-self-else-is_none c =
    let b = c.args.self.now in
    let stood = stood_already same_tie _ c.add.new.row b.used c.args.tie c.in_ok-add.field-0 c.in_ok-add.ensures c.if-is_none.ensures in
    let e = same_front b c.args.tie _ c.add.new.row c.as_mut_slice-row.ensures.value c.add.auto.row stood.2 in
    let s = subst (λ xs. Stand (counts_kept b.marks) xs b.used) (sym e) (ties_stand b) in
    record { room = b.room; front = b.front; once = s.0; inside = s.1.0; counted = s.1.1.0 }

pub returns-else-is_none : goal.returns-else-is_none
returns-else-is_none c =
    let b = c.args.self.now in
    let t = c.args.tie in
    let m = list_meaning b in
    let w = tie_in (counts_kept b.marks) _ t c.counts.ensures c.in_ok-check_tie.ensures in
    let lent = c.as_mut_slice-row.ensures.value in
    let ws = c.add.new.row in
    let stood = stood_already same_tie _ ws b.used t c.in_ok-add.field-0 c.in_ok-add.ensures c.if-is_none.ensures in
    let some = some_lent b t _ ws lent c.add.auto.row stood.0 stood.1 in
    let there : has m t ≡ true = grind (arith, nat_tests, some) in
    let ok = entering-there m t w there in
    let e = same_front b t _ ws lent c.add.auto.row stood.2 in
    record {
      answer = sym ok;
      after = ap (λ ys. with_ties m (listed ys)) e ∙ entered-there m t ok there;
      row = row_same b t _ ws lent c.add.auto.row stood.2 ∙ sym (left_there b t there);
    }
