-- How the words of a board book move.
use Rattle.std.proofs.Common.{◌≡◌, ℕ, ◌+◌, ◌*◌, ◌<◌, ◌≤◌, Bool, true, false, cond, eqb, List, length, replicate, Ok, vec_items, sym, ap, ◌∙◌, ⊎_elim, arith}
use Rattle.std.specs.Int.{from_bool}
use Rattle.std.specs.Vec.{with_items}
use Rattle.std.proofs.lemmas.List.{with_items_is}
use Rattle.std.proofs.lemmas.Bool.{cases_Bool}
use Rattle.std.proofs.lemmas.Bool.Decides.{nat_tests}
use Rattle.book.specs.declared.counts.Counts.{Counts}
use Rattle.marks.specs.declared.mark_board.MarkBoard.{MarkBoard}
use Rattle.book.specs.declared.tie.Tie.{Tie}
use Rattle.bits.specs.Bits.{bit_set}
use Rattle.book.specs.Calls.{tie_within, has, entering}
use Rattle.book.specs.Limits.{made_counts}
use Rattle.marks.specs.MarkBoards.{counts_kept, marks_kept}
use Rattle.book.specs.Meaning.{Meaning, ties_of, count3, at3, opened}
use Rattle.book_laws.proofs.Counting.{count3_le, count3_put}
use Rattle.book_laws.proofs.Moves.{fun_ext3, entering-there, entering_room}
use Rattle.board_book.specs.TieBits.{place, possible, ties_in, Clear}
use Rattle.board_book.specs.Boards.{board_meaning}
use Rattle.board_book.specs.Making.{fitted, board_opened}
use Rattle.board_book.specs.declared.board.BoardBook.{BoardBook}
use Rattle.board_book.proofs.TieMoves as ties

-- there are few ties
pub few_ties : (b : BoardBook) → b.used ≤ 65536
few_ties b =
    let c = counts_kept b.marks in
    omega (arith, b.counted, count3_le c.labels c.names (ties_in c (vec_items b.words)), ties.few_possible c b.marks.within.few_labels b.marks.within.few_names)

-- a tie in range is never refused
pub never_full : (b : BoardBook) (t : Tie) → tie_within (counts_kept b.marks) t ≡ true → entering (board_meaning b) t ≡ Ok tt
unfolding ties_of
never_full b t within =
    let m = board_meaning b in
    let c = counts_kept b.marks in
    ⊎_elim
    (λ (on : has m t ≡ true). entering-there m t within on)
    (λ (off : has m t ≡ false).
    let l-in : t.label < c.labels = grind (arith, nat_tests, within) in
    let f-in : t.from < c.names = grind (arith, nat_tests, within) in
    let t-in : t.to < c.names = grind (arith, nat_tests, within) in
    let more = count3_put c.labels c.names m.tied t.label t.from t.to l-in f-in t-in off in
    entering_room m t within (omega (arith, more, count3_le c.labels c.names (at3 m.tied t.label t.from t.to true))))
    (cases_Bool (has m t))

-- what the words tell once the bit of a tie, which was `was`, is v
pub record Replaced (b : BoardBook) (t : Tie) (was v : Bool) (after : List ℕ) : Type 0 where
  pub ties : ties_in (counts_kept b.marks) after ≡ at3 (board_meaning b).tied t.label t.from t.to v
  pub clear : Clear (counts_kept b.marks) after
  pub count : count3 (counts_kept b.marks).labels (counts_kept b.marks).names (ties_in (counts_kept b.marks) after) + from_bool was ≡ b.used + from_bool v

module _ (b : BoardBook) (t : Tie) (i : ℕ) (was v : Bool) (within : tie_within (counts_kept b.marks) t ≡ true)
    (at : i ≡ place (counts_kept b.marks).names t.label t.from t.to)
    (rs ws : List ℕ) (lent : rs ≡ vec_items b.words) (long : length ws ≡ length rs) (read : was ≡ bit_set rs i)
    (set : i < length rs * 64 → (j : ℕ) → bit_set ws j ≡ cond (eqb i j) v (bit_set rs j)) where
  abbrev c : Counts
  c = counts_kept b.marks

  abbrev items : List ℕ
  items = vec_items b.words

  abbrev after : List ℕ
  after = vec_items (with_items b.words ws)

  abbrev here : ℕ
  here = place c.names t.label t.from t.to

  back : after ≡ ws
  back = with_items_is b.words ws (long ∙ ap length lent ∙ sym b.words.ok.0)

  set_here : (j : ℕ) → bit_set after j ≡ cond (eqb here j) v (bit_set items j)
  set_here j =
      let low = ties.place_below c t within in
      let in_words : i < length rs * 64 = omega (arith, at, low, b.enough, ap (λ k. k * 64) (ap length lent ∙ sym b.words.ok.0)) in
      grind (arith, back, lent, at, set in_words j)

  told : was ≡ bit_set items here
  told = grind (arith, lent, at, read)

  pub replaced_by : Replaced b t was v after
  replaced_by = record {
    ties = ties.ties_replaced c items after t v within set_here;
    clear = ties.still_clear c items after t v within set_here b.clear;
    count = omega (arith, b.counted, ties.count_replaced c items after t v within set_here, ap from_bool told);
  }

-- a new board
made_fitted : (c : Counts) (n : ℕ) → made_counts (fitted c n) ≡ fitted c n
made_fitted c n = grind (arith, nat_tests)

pub new_counts : (c r x : Counts) (n : ℕ) → x ≡ fitted c n → r ≡ made_counts x → r ≡ fitted c n
new_counts c r x n e made = made ∙ ap made_counts e ∙ made_fitted c n

pub new_enough : (c : Counts) (n : ℕ) → possible (fitted c n) ≤ n * 64
new_enough c n = grind (arith, nat_tests)

pub new_means : (m : MarkBoard) (bits : List ℕ) (k n : ℕ) (c : Counts) → bits ≡ replicate k 0 → counts_kept m ≡ fitted c n → marks_kept m ≡ (λ _ _. false)
    → ◌≡◌ {A = Meaning} (record { counts = counts_kept m; capacity = possible (counts_kept m); tied = ties_in (counts_kept m) bits; marked = marks_kept m }) (board_opened c n)
new_means m bits k n c clear counts none =
    let empty : ties_in (counts_kept m) bits ≡ (λ _ _ _. false) = fun_ext3 (λ x y z. ap (λ us. ties_in (counts_kept m) us x y z) clear ∙ ties.untied (counts_kept m) k x y z) in
    let made : opened (fitted c n) (possible (fitted c n)) ≡ board_opened c n = grind (arith, nat_tests) in
    cc
