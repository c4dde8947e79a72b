use Rattle.std.proofs.Common.{◌≡◌, ℕ, ◌+◌, ◌-◌, ◌<◌, ltb, vec_items, subst, arith}
use Rattle.std.specs.Int.{w64, trailing_zeros}
use Rattle.std.specs.Bool.{then_some}
use Rattle.std.proofs.lemmas.Bool.Decides.{nat_tests}
use Rattle.bits.specs.Bits.{bit, bit_set}
use Rattle.marks.specs.MarkBoards.{counts_kept}
use Rattle.board_book.specs.TieBits.{place}
use Rattle.board_book.proofs.RowLaws.{row_lowest}
use Rattle.board_book.proofs.board.BoardBook.next_to.Goals as goal

pub returns : goal.returns
returns c =
    let b = c.args.self.now in
    let of = c.args.of in
    let at = c.args.at in
    let cs = counts_kept b.marks in
    let ws = vec_items b.words in
    let w = c.gather.result in
    let i = c.place.result in
    let zeros = trailing_zeros w64 w in
    let row : (k : ℕ) → k < 64 → bit w k ≡ bit_set ws (i + k) = subst (λ us. (k : ℕ) → k < 64 → bit w k ≡ bit_set us (i + k)) c.deref.ensures.value c.gather.ensures in
    let start : i ≡ place cs.names of.label of.name at = grind (arith, c.place.ensures, c.tie.ensures, c.requires.forward) in
    let told : c.then_some.result ≡ then_some (ltb zeros (cs.names - at)) (at + zeros) = cc in
    let lowest = row_lowest cs ws of.label of.name at i w b.marks.within.few_names (grind (arith, nat_tests, c.requires.within)) (grind (arith, nat_tests, c.requires.within)) start row in
    rw (told, c.requires.forward) lowest
