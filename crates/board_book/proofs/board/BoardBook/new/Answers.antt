use Rattle.std.proofs.Common.{◌≡◌, vec_len, vec_items, replicate, sym, ap, ◌∙◌, subst, arith}
use Rattle.bits.specs.Bits.{bit_set}
use Rattle.marks.specs.MarkBoards.{counts_kept}
use Rattle.bits.proofs.BitLaws.{unlit}
use Rattle.board_book.specs.Making.{fitted}
use Rattle.board_book.specs.TieBits.{CountedTies}
use Rattle.board_book.proofs.BoardMoves.{new_counts, new_enough, new_means}
use Rattle.board_book.proofs.TieMoves.{untied_counted}
use Rattle.board_book.proofs.board.BoardBook.new.Goals as goal
use Rattle.board_book.proofs.board.BoardBook.new.Goals.{After-new-marks}

-- the counts of the new board
counts : (c : After-new-marks) → counts_kept c.new-marks.result ≡ fitted c.args.counts (vec_len c.args.words)
counts c =
    let asked : c.fitted_counts.result ≡ fitted c.args.counts (vec_len c.args.words) = c.fitted_counts.ensures ∙ ap (fitted c.args.counts) (c.len.ensures ∙ c.fill.ensures.len) in
    new_counts c.args.counts (counts_kept c.new-marks.result) c.fitted_counts.result (vec_len c.args.words) asked c.new-marks.ensures.counts

-- its words
clear : (c : After-new-marks) → vec_items c.fill.new.self ≡ replicate (vec_len c.args.words) 0
clear c = c.fill.ensures.items (λ y e. e)

pub invariant_of-result : goal.invariant_of-result
invariant_of-result c =
    let at = (goal.at.invariant_of-result c).After-new-marks in
    let n = vec_len c.args.words in
    let cs = counts_kept c.new-marks.result in
    record {
      enough = grind (arith, counts at, c.fill.ensures.len, new_enough c.args.counts n);
      counted = subst (λ us. CountedTies cs us 0) (sym (clear at)) (untied_counted cs n);
      clear = λ i past. ap (λ us. bit_set us i) (clear at) ∙ unlit n i;
    }

pub returns-clause-empty : goal.returns-clause-empty
returns-clause-empty c =
    let at = (goal.at.returns-clause-empty c).After-new-marks in
    new_means c.new-marks.result _ (vec_len c.args.words) (vec_len c.args.words) c.args.counts (clear at) (counts at) c.new-marks.ensures.none
