-- The lowest name that a name is tied to, or that is tied to it.
use Rattle.std.proofs.Common.{◌≡◌, ℕ, ◌+◌, ◌-◌, ◌<◌, ◌≤◌, Bool, true, false, ltb, List, Some, None, Option, sym, refl, ap, ◌∙◌, ⊎_elim, arith}
use Rattle.std.specs.Int.{w64, trailing_zeros}
use Rattle.std.proofs.lemmas.Bool.{cases_lt}
use Rattle.std.specs.Bool.{then_some}
use Rattle.std.specs.Option.{MatchOption}
use Rattle.std.proofs.lemmas.Bool.Decides.{nat_tests}
use Rattle.book.specs.declared.counts.Counts.{Counts}
use Rattle.book.specs.declared.tie.Neighbours.{Neighbours}
use Rattle.book.specs.declared.tie.Direction.{Direction}
use Rattle.book.specs.declared.tie.Direction.TheVariants.{Forward, Backward}
use Rattle.book.specs.Ties.{joining, toward}
use Rattle.marks.specs.MarkBoards.{counts_kept}
use Rattle.board_book.specs.Boards.{board_meaning}
use Rattle.board_book.specs.declared.board.BoardBook.{BoardBook}
use Rattle.bits.specs.Bits.{bit, bit_set}
use Rattle.book.specs.Calls.{next_within, tie_within, has, joins}
use Rattle.board_book.specs.Lowest.{Lowest}
use Rattle.board_book.specs.TieBits.{place, ties_in}
use Rattle.bits.proofs.Gathering.{trailing_clear, trailing_set}

-- the bits of a row from `at` on, in one word
module _ (c : Counts) (ws : List ℕ) (l s at i w : ℕ) (few : c.names ≤ 64) (l_in : l < c.labels) (s-in : s < c.names)
    (start : i ≡ place c.names l s at) (gathered : (k : ℕ) → k < 64 → bit w k ≡ bit_set ws (i + k)) where
  abbrev zeros : ℕ
  zeros = trailing_zeros w64 w

  row_bit : (k : ℕ) → at ≤ k → k < c.names → bit_set ws (place c.names l s k) ≡ bit w (k - at)
  row_bit k low high =
      let same : i + (k - at) ≡ place c.names l s k = omega (arith, start) in
      sym (gathered (k - at) (omega (arith, few)) ∙ ap (bit_set ws) same)

  pub row_none : (k : ℕ) → at ≤ k → (k < c.names → k - at < zeros) → ties_in c ws l s k ≡ false
  row_none k low below =
      ⊎_elim
      (λ (lt : k < c.names).
      let off : bit_set ws (place c.names l s k) ≡ false = row_bit k low lt ∙ trailing_clear 64 w (k - at) (below lt) in
      grind (arith, off))
      (λ (le : c.names ≤ k). grind (arith, nat_tests, le))
      (cases_lt k c.names)

  pub row_found : zeros < c.names - at → ties_in c ws l s (at + zeros) ≡ true
  row_found lt =
      let back : at + zeros - at ≡ zeros = omega arith in
      let on : bit_set ws (place c.names l s (at + zeros)) ≡ true = row_bit (at + zeros) (omega arith) (omega (arith, lt)) ∙ ap (bit w) back ∙ trailing_set 64 w (omega (arith, lt, few)) in
      let high : at + zeros < c.names = omega (arith, lt) in
      grind (arith, nat_tests, l_in, s-in, on, high)

  -- the lowest name not below `at` that s is tied to
  pub row_lowest : Lowest (ties_in c ws l s) at (then_some (ltb zeros (c.names - at)) (at + zeros))
  row_lowest = told (ltb zeros (c.names - at)) refl
    where
      told : (x : Bool) → ltb zeros (c.names - at) ≡ x → Lowest (ties_in c ws l s) at (then_some x (at + zeros))
      told true e = (omega arith, row_found (grind (arith, nat_tests, e)), λ k low below. row_none k low (λ _. omega (arith, below)))
      told false e = λ k low. row_none k low (λ lt. grind (arith, nat_tests, e, lt))

-- the tie that makes a name a neighbour is in range
within_toward : (c : Counts) (l : ℕ) (d : Direction) (s k : ℕ) → l < c.labels → s < c.names → k < c.names → tie_within c (joining l d s k) ≡ true
within_toward c l Forward s k l_in s-in k_in = grind (arith, nat_tests, l_in, s-in, k_in)
within_toward c l Backward s k l_in s-in k_in = grind (arith, nat_tests, l_in, s-in, k_in)

-- and out of range it is not there
absent_past : (b : BoardBook) (l : ℕ) (d : Direction) (s k : ℕ) → (counts_kept b.marks).names ≤ k → has (board_meaning b) (joining l d s k) ≡ false
absent_past b l Forward s k le = grind (arith, nat_tests, le)
absent_past b l Backward s k le = grind (arith, nat_tests, le)

-- whether y is a neighbour, as a bit tells it where the tie is in range
abbrev pub Told : BoardBook → Neighbours → Bool → ℕ → Type 0
Told b of v y = tie_within (counts_kept b.marks) (toward of y) ≡ true → joins (board_meaning b) of y ≡ v

-- the first name of which a bit tells so is the lowest of the neighbours
pub lowest_found : (b : BoardBook) (of : Neighbours) (at n : ℕ) (r : Option ℕ) → n ≡ (counts_kept b.marks).names → next_within (counts_kept b.marks) of at ≡ true
    → MatchOption r ((k : ℕ) → at ≤ k → k < n → Told b of false k) (λ i. (at ≤ i) × (i < n) × Told b of true i × ((k : ℕ) → at ≤ k → k < i → Told b of false k))
    → Lowest (joins (board_meaning b) of) at r
lowest_found b of at n r same within found = lowest r found
  where
    in_range : (k : ℕ) → k < n → tie_within (counts_kept b.marks) (toward of k) ≡ true
    in_range k lt = within_toward (counts_kept b.marks) of.label of.direction of.name k (grind (arith, nat_tests, within)) (grind (arith, nat_tests, within)) (omega (arith, same, lt))

    lowest : (o : Option ℕ) → MatchOption o ((k : ℕ) → at ≤ k → k < n → Told b of false k) (λ i. (at ≤ i) × (i < n) × Told b of true i × ((k : ℕ) → at ≤ k → k < i → Told b of false k))
        → Lowest (joins (board_meaning b) of) at o
    lowest None none = λ k low. ⊎_elim (λ (lt : k < n). none k low lt (in_range k lt)) (λ (le : n ≤ k). absent_past b of.label of.direction of.name k (omega (arith, same, le))) (cases_lt k n)
    lowest (Some i) first = (first.0, first.2 (in_range i first.1), λ k low lt. first.3 k low lt (in_range k (omega (arith, first.1, lt))))
