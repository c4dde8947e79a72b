use Rattle.std.proofs.Common.{vec_len, refl, arith}
use Rattle.marks.specs.MarkBoards.{counts_kept, marks_kept}
use Rattle.list_book.proofs.Opening.{once_nil, inside_nil, counted_nil, limit_is, limit_fits, made_as}
use Rattle.list_book.proofs.ListBook.new.Goals as goal

pub invariant_of-result : goal.invariant_of-result
invariant_of-result c =
    let n = vec_len c.args.row in
    let k = counts_kept c.new.result in
    let limit = limit_is c.args.counts _ n _ c.len.ensures c.limit_of-limit.ensures in
    record { room = omega (arith, limit, limit_fits c.args.counts n); front = omega arith; once = once_nil; inside = inside_nil k; counted = counted_nil k }

pub returns : goal.returns
returns c =
    let n = vec_len c.args.row in
    let limit = limit_is c.args.counts _ n _ c.len.ensures c.limit_of-limit.ensures in
    record {
      meaning = made_as c.args.counts (counts_kept c.new.result) n _ (marks_kept c.new.result) c.new.ensures.counts limit c.new.ensures.none;
      row = refl;
    }
