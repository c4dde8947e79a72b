-- How the row of a list book moves.
use Rattle.std.specs.Prelude.{◌≡◌, ℕ, ◌+◌, ◌-◌, ◌<◌, ◌≤◌, Bool, true, false, cond, not, ◌&&◌, ltb, List, [], ◌∷◌, ◌++◌, length, get_or, take, drop, set, is_ok, is_some, Some, None, Ok, Err, Option, vec_items, Vec, ◌≢◌, nat_lt, slice_index_or, slice_set, refl}
use Rattle.std.proofs.Common.{sym, ap, subst, ◌∙◌, ⊎_elim, arith, add-zero, zero-add}
use borrow.Rule.Slice.PartMut.{put_mid, same_len_mid, put_same, set_mid_at}
use Rattle.std.proofs.lemmas.Bool.Decides.{nat_tests}
use Rattle.std.proofs.lemmas.List.{with_items_is, get_or-take, get_or_read, length-take, length-take-le, take-take, take-append-drop, take_more_set, drop-set-lt}
use Rattle.std.proofs.lemmas.Bool.{cases_lt, cases_Bool, cond-true, cond-false}
use Rattle.std.specs.Vec.{with_items}
use Rattle.std.specs.declared.alloc.Global.{Global}
use Rattle.rows.specs.Rows.{Absent, Adds, FirstAt, Grew}
use Rattle.book.specs.declared.counts.Counts.{Counts}
use Rattle.book.specs.declared.tie.Tie.{Tie}
use Rattle.book.specs.Meaning.{at3, count3, ties_of}
use Rattle.marks.specs.MarkBoards.{counts_kept}
use Rattle.book.specs.Calls.{tie_within, ranged, has, entering}
use Rattle.book.specs.declared.refusal.EnterRefusal.{EnterRefusal}
use Rattle.book_laws.proofs.Counting.{count3_put, count3_cut}
use Rattle.book_laws.proofs.Moves.{fun_ext3}
use Rattle.marks.proofs.MarkMoves.{ranged_ok}
use Rattle.list_book.specs.declared.ListBook.{ListBook}
use Rattle.book.specs.Ties.{is_tie, same_tie}
use Rattle.list_book.specs.Listed.{times, listed, Once, Inside, Counted, HoldsTies}
use Rattle.list_book.specs.ListBooks.{list_meaning, row_ties, row_items, row_entered, RowStruck}
use Rattle.list_book.proofs.Times.{times_push, times_moved, absent_times, found_times, stands_times, place_of_lem, two_times}

-- what a book keeps true of the ties in its row
abbrev pub Stand : Counts → List Tie → ℕ → Type 0
Stand c xs used = Once xs × (Inside c xs × (Counted c xs used × Unit {0}))

-- a tie put behind the others
module _ (c : Counts) (xs : List Tie) (t : Tie) where
  pub placed : (x y z : ℕ) → listed (xs ++ t ∷ []) x y z ≡ at3 (listed xs) t.label t.from t.to true x y z
  placed x y z = grind (arith, nat_tests, times_push xs t x y z)

  placed_once : Once xs → times xs t.label t.from t.to ≡ 0 → Once (xs ++ t ∷ [])
  placed_once once none l f u = grind (arith, nat_tests, times_push xs t l f u, once l f u, none)

  module _ (within : tie_within c t ≡ true) where
    placed_inside : Inside c xs → Inside c (xs ++ t ∷ [])
    placed_inside inside l f u =
        ⊎_elim
        (λ (h : is_tie t l f u ≡ true).
        let i : (nat_lt l c.labels && nat_lt f c.names && nat_lt u c.names) ≡ true = grind (arith, nat_tests, h, within) in
        sym (ap (λ w. w && listed (xs ++ t ∷ []) l f u) i))
        (λ (h : is_tie t l f u ≡ false).
        let e : times (xs ++ t ∷ []) l f u ≡ times xs l f u = times_push xs t l f u ∙ ap (λ w. times xs l f u + cond w 1 0) h ∙ add-zero (times xs l f u) in
        ap (ltb 0) e ∙ inside l f u ∙ sym (ap (λ n. (nat_lt l c.labels && nat_lt f c.names && nat_lt u c.names) && nat_lt 0 n) e))
        (cases_Bool (is_tie t l f u))

    placed_counted : (used : ℕ) → times xs t.label t.from t.to ≡ 0 → Counted c xs used → Counted c (xs ++ t ∷ []) (used + 1)
    placed_counted used none counted =
        let off : listed xs t.label t.from t.to ≡ false = grind (arith, nat_tests, none) in
        let more = count3_put c.labels c.names (listed xs) t.label t.from t.to (grind (arith, nat_tests, within)) (grind (arith, nat_tests, within)) (grind (arith, nat_tests, within)) off in
        ap (λ n. n + 1) counted ∙ sym more ∙ sym (ap (count3 c.labels c.names) (fun_ext3 placed))

    pub placed_stand : (used : ℕ) → times xs t.label t.from t.to ≡ 0 → Stand c xs used → Stand c (xs ++ t ∷ []) (used + 1)
    placed_stand used none (once, (inside, (counted, _))) = (placed_once once none, (placed_inside inside, (placed_counted used none counted, tt)))

-- a tie taken out
module _ (c : Counts) (xs : List Tie) (t : Tie) (once : Once xs) (ys : List Tie) (moved : (x y z : ℕ) → times ys x y z + cond (is_tie t x y z) 1 0 ≡ times xs x y z) where
  pub removed : (x y z : ℕ) → listed ys x y z ≡ at3 (listed xs) t.label t.from t.to false x y z
  removed x y z = grind (arith, nat_tests, moved x y z, once x y z)

  removed_once : Once ys
  removed_once l f u = omega (arith, moved l f u, once l f u)

  removed_inside : Inside c xs → Inside c ys
  removed_inside inside l f u = grind (arith, nat_tests, moved l f u, inside l f u)

  removed_counted : (used : ℕ) → tie_within c t ≡ true → 0 < times xs t.label t.from t.to → Counted c xs used → Counted c ys (used - 1)
  removed_counted used within some counted =
      let on : listed xs t.label t.from t.to ≡ true = grind (arith, nat_tests, some) in
      let less = count3_cut c.labels c.names (listed xs) t.label t.from t.to (grind (arith, nat_tests, within)) (grind (arith, nat_tests, within)) (grind (arith, nat_tests, within)) on in
      let same_count = ap (count3 c.labels c.names) (fun_ext3 removed) in
      let n : used ≡ count3 c.labels c.names (listed xs) = counted in
      omega (arith, n, less, same_count)

  pub removed_stand : (used : ℕ) → tie_within c t ≡ true → 0 < times xs t.label t.from t.to → Inside c xs → Counted c xs used → Stand c ys (used - 1)
  removed_stand used within some inside counted = (removed_once, (removed_inside inside, (removed_counted used within some counted, tt)))

-- a range test that was passed
pub tie_in : (c d : Counts) (t : Tie) → d ≡ c → Ok tt ≡ ranged (tie_within d t) → tie_within c t ≡ true
tie_in c d t e h = subst (λ x. tie_within x t ≡ true) e (ranged_ok (tie_within d t) tt h)

pub ties_stand : (b : ListBook) → Stand (counts_kept b.marks) (row_ties b) b.used
ties_stand b = (b.once, (b.inside, (b.counted, tt)))

-- as many as are used
pub count : (b : ListBook) → ties_of (list_meaning b) ≡ b.used
unfolding ties_of
count b = sym b.counted

pub ties_long : (b : ListBook) → length (row_ties b) ≡ b.used
ties_long b = length-take-le b.used (vec_items b.row) (omega (arith, b.front, b.room, b.row.ok.0))

-- two lists that are alike before and after a place
same_parts : {X : Type 0} (k : ℕ) (xs ys : List X) → take k xs ≡ take k ys → drop k xs ≡ drop k ys → xs ≡ ys
same_parts k xs ys e f = sym (take-append-drop k xs) ∙ (λ i. e i ++ f i) ∙ take-append-drop k ys

-- a row that grew is the old one with the thing written behind the others
grown : {X : Type 0} (xs ys : List X) (used : ℕ) (x : X) → Grew xs ys used x → ys ≡ slice_set xs used x
grown xs ys used x h =
    same_parts (used + 1) ys (slice_set xs used x) (h.front ∙ sym (take_more_set xs used x h.room)) (h.rest ∙ sym (drop-set-lt (used + 1) xs used x (omega arith)))

-- what adding answered: the thing was put, or stood there already
pub put_behind : {X : Type 0} (same : X → X → Bool) (xs ys : List X) (used : ℕ) (x : X) (o : Option ℕ) → Adds same xs ys used x (Ok o) → is_some o ≡ false → Absent same (take used xs) (length (take used xs)) x × Grew xs ys used x
put_behind same xs ys used x None added e = added
put_behind same xs ys used x (Some i) added e = absurd (grind (arith, e))

pub stood_already : {X : Type 0} (same : X → X → Bool) (xs ys : List X) (used : ℕ) (x : X) (o : Option ℕ) → Adds same xs ys used x (Ok o) → is_some o ≡ true → (i : ℕ) × FirstAt same (take used xs) x i × (ys ≡ xs)
stood_already same xs ys used x None added e = absurd (grind (arith, e))
stood_already same xs ys used x (Some i) added e = (i, added.0, added.1)

-- the places up to the limit were lent as a part of rs, and hold ws now
module _ (b : ListBook) (t : Tie) (rs ws : List Tie) (lent : rs ≡ vec_items b.row) (long : length ws ≡ length (take (b.limit - 0) rs)) where
  abbrev part : List Tie
  part = take (b.limit - 0) rs

  abbrev pub row_now : Vec Tie Global
  row_now = with_items b.row (put_mid 0 (b.limit - 0) rs ws)

  part_long : length part ≡ b.limit
  part_long = length-take-le (b.limit - 0) rs (omega (arith, ap length lent, b.room, b.row.ok.0)) ∙ omega arith

  part_is : take b.used part ≡ row_ties b
  part_is = take-take b.used (b.limit - 0) rs (omega (arith, b.front)) ∙ ap (take b.used) lent

  whole : vec_items row_now ≡ put_mid 0 (b.limit - 0) rs ws
  whole = with_items_is b.row (put_mid 0 (b.limit - 0) rs ws) (omega (arith, same_len_mid 0 (b.limit - 0) rs ws long, ap length lent, b.row.ok.0))

  pub row_same : ws ≡ part → vec_items row_now ≡ vec_items b.row
  row_same e = whole ∙ ap (put_mid 0 (b.limit - 0) rs) e ∙ put_same 0 (b.limit - 0) rs ∙ lent

  pub row_grew : Grew part ws b.used t → vec_items row_now ≡ slice_set (vec_items b.row) b.used t
  row_grew h =
      whole ∙ ap (put_mid 0 (b.limit - 0) rs) (grown part ws b.used t h) ∙ set_mid_at 0 (b.limit - 0) b.used rs t h.room ∙ ap (λ xs. set xs (0 + b.used) t) lent
      ∙ ap (λ k. set (vec_items b.row) k t) (zero-add b.used)

  pub none_lent : Absent same_tie (take b.used part) (length (take b.used part)) t → times (row_ties b) t.label t.from t.to ≡ 0
  none_lent h = absent_times (row_ties b) t (subst (λ ys. Absent same_tie ys (length ys) t) part_is h)

  pub some_lent : (i : ℕ) → FirstAt same_tie (take b.used part) t i → 0 < times (row_ties b) t.label t.from t.to
  some_lent i h = found_times (row_ties b) t i (subst (λ ys. FirstAt same_tie ys t i) part_is h)

  pub same_front : ws ≡ part → take b.used (vec_items row_now) ≡ row_ties b
  same_front e = ap (take b.used) (row_same e)

  pub grew_room : Grew part ws b.used t → b.used < b.limit
  grew_room h = omega (arith, h.room, part_long)

  pub grew_front : Grew part ws b.used t → take (b.used + 1) (vec_items row_now) ≡ row_ties b ++ t ∷ []
  grew_front h = ap (take (b.used + 1)) (row_grew h) ∙ take_more_set (vec_items b.row) b.used t (omega (arith, grew_room h, b.room, b.row.ok.0))

  pub full_lent : length part ≤ b.used → b.limit ≤ b.used
  full_lent h = omega (arith, h, part_long)

-- the row that entering leaves
module _ (b : ListBook) (t : Tie) where
  abbrev alters : Bool
  alters = is_ok (entering (list_meaning b) t) && not (has (list_meaning b) t)

  pub left_there : has (list_meaning b) t ≡ true → row_entered b t ≡ row_items b
  left_there there = cond-false alters _ _ (grind (arith, there))

  pub left_refused : (e : EnterRefusal) → entering (list_meaning b) t ≡ Err e → row_entered b t ≡ row_items b
  left_refused e h = cond-false alters _ _ (ap (λ r. is_ok r && not (has (list_meaning b) t)) h)

  pub written : entering (list_meaning b) t ≡ Ok tt → times (row_ties b) t.label t.from t.to ≡ 0 → row_entered b t ≡ slice_set (row_items b) b.used t
  written ok none =
      let absent : has (list_meaning b) t ≡ false = grind (arith, nat_tests, none) in
      let does : alters ≡ true = ap (λ r. is_ok r && not (has (list_meaning b) t)) ok ∙ ap not absent in
      cond-true alters _ _ does ∙ ap (λ n. set (row_items b) n t) (count b)

  -- and striking, where the tie was not there
  pub left_absent : has (list_meaning b) t ≡ false → RowStruck b t (row_items b)
  left_absent absent = ((λ there. absurd (grind (arith, there, absent))), λ _. refl)

-- the tie of these numbers
abbrev tie : ℕ → ℕ → ℕ → Tie
tie l f t = record { label = l; from = f; to = t }

-- ties that are the same are equal
pub same_equal : (x y : Tie) → same_tie x y ≡ true → x ≡ y
same_equal x y e = ap (λ n. tie n x.from x.to) eqs.0 ∙ ap (λ n. tie y.label n x.to) eqs.1 ∙ ap (λ n. tie y.label y.from n) eqs.2
  where
    eqs : (x.label ≡ y.label) × (x.from ≡ y.from) × (x.to ≡ y.to)
    eqs = (grind (arith, nat_tests, e), grind (arith, nat_tests, e), grind (arith, nat_tests, e))

like : (x t : Tie) (l f u : ℕ) → same_tie x t ≡ true → is_tie x l f u ≡ is_tie t l f u
like x t l f u e = grind (arith, nat_tests, e)

-- the tie at i was written over by the last one, y
module _ (b : ListBook) (t y : Tie) (i : ℕ) (found : FirstAt same_tie (row_ties b) t i) (last : y ≡ slice_index_or (vec_items b.row) (b.used - 1) y) where
  abbrev pub left_over : List Tie
  left_over = take (b.used - 1) (slice_set (vec_items b.row) i y)

  pub i_in : i < b.used
  i_in = omega (arith, found.0, length-take b.used (vec_items b.row))

  pub struck_moved : (l f u : ℕ) → times left_over l f u + cond (is_tie t l f u) 1 0 ≡ times (row_ties b) l f u
  struck_moved l f u =
      let xs = vec_items b.row in
      let long = b.row.ok.0 in
      let n : b.used - 1 + 1 ≡ b.used = omega (arith, i_in) in
      let moved = times_moved xs i (b.used - 1) y y (omega (arith, i_in)) (omega (arith, i_in, long, b.front, b.room)) (sym last) l f u in
      let here = found.1 y in
      let at = get_or-take b.used xs i y i_in in
      let alike = like (slice_index_or xs i y) t l f u (subst (λ x. same_tie x t ≡ true) at here) in
      subst (λ v. times left_over l f u + cond v 1 0 ≡ times (row_ties b) l f u) alike
      (subst (λ k. times left_over l f u + cond (is_tie (slice_index_or xs i y) l f u) 1 0 ≡ times (take k xs) l f u) n moved)

  -- the row that striking leaves
  pub taken_out : RowStruck b t (slice_set (vec_items b.row) i y)
  taken_out =
      let xs = vec_items b.row in
      let n = count b in
      let long = b.row.ok.0 in
      let some = found_times (row_ties b) t i found in (
        (λ _. (
          i,
          (
            omega (arith, i_in, n),
            (λ d. sym (get_or-take b.used xs i d i_in) ∙ same_equal _ t (found.1 d)),
            λ d. ap (set xs i) (get_or_read xs (b.used - 1) y (omega (arith, i_in, long, b.front, b.room)) last d ∙ ap (λ k. get_or xs (k - 1) d) (sym n)),
          ),
        )),
        λ absent. absurd (grind (arith, nat_tests, some, absent)),
      )

pub same_refl : (x : Tie) → same_tie x x ≡ true
same_refl x = grind (arith, nat_tests)

-- the row when the book is taken apart
pub holds_ties : (b : ListBook) → HoldsTies (list_meaning b) (vec_items b.row)
holds_ties b = record {
  fits = omega (arith, count b, b.front, b.room, b.row.ok.0);
  each = λ k d lt.
      let in' : k < b.used = omega (arith, count b, lt) in
      let at = get_or-take b.used (vec_items b.row) k d in' in
      let here = subst (λ x. same_tie x (slice_index_or (vec_items b.row) k d) ≡ true) (sym at) (same_refl (slice_index_or (vec_items b.row) k d)) in
      let some = stands_times (row_ties b) (slice_index_or (vec_items b.row) k d) k d (omega (arith, ties_long b)) here in
      grind (arith, nat_tests, some);
  every = λ t on.
      let p = place_of_lem (row_ties b) t (grind (arith, nat_tests, on)) in
      let in' : p.0 < b.used = omega (arith, p.1, ties_long b) in
      (p.0, omega (arith, count b, in'), λ d. sym (get_or-take b.used (vec_items b.row) p.0 d in') ∙ same_equal _ t (p.2 d));
  once = λ j k d j-in k-in e.
      ⊎_elim
      (λ (lt : j < k). absurd (twice j k d lt (omega (arith, count b, k-in)) e))
      (λ (le : k ≤ j). ⊎_elim (λ (lt : k < j). absurd (twice k j d lt (omega (arith, count b, j-in)) (sym e))) (λ (le' : j ≤ k). omega arith) (cases_lt k j))
      (cases_lt j k);
}
  where
    twice : (j k : ℕ) (d : Tie) → j < k → k < b.used → slice_index_or (vec_items b.row) j d ≢ slice_index_or (vec_items b.row) k d
    twice j k d lt k-in e =
        let xs = vec_items b.row in
        let t = get_or xs k d in
        let at_j = get_or-take b.used xs j d (omega arith) ∙ e in
        let at-k = get_or-take b.used xs k d k-in in
        let two = two_times (row_ties b) t j k d lt (omega (arith, ties_long b)) (subst (λ x. same_tie x t ≡ true) (sym at_j) (same_refl t)) (subst (λ x. same_tie x t ≡ true) (sym at-k) (same_refl t)) in
        omega (arith, two, b.once t.label t.from t.to)
