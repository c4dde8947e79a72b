-- Lists of calls, one call on; and that the last accepted call decides.
use Rattle.std.proofs.Common.{◌≡◌, ℕ, suc, ◌+◌, ◌<◌, Bool, true, false, cond, ◌&&◌, eqb, List, [], ◌∷◌, ◌++◌, length, get_or, take, drop, set, is_ok as isOk, Some, None, Ok, Err, Result, sym, refl, ap, ◌∙◌, append_assoc, add-one, arith, drop-cons}
use Rattle.std.proofs.lemmas.List.{take_more, set_at, length-take-le}
use Rattle.std.proofs.lemmas.Bool.Decides.{nat_tests}
use Rattle.runs.specs.declared.play.Call.{Call}
use Rattle.runs.specs.declared.play.Call.TheVariants.{Enter, Strike, SetMark, LiftMark}
use Rattle.book.specs.declared.refusal.EnterRefusal.{EnterRefusal}
use Rattle.book.specs.declared.tie.Tie.{Tie}
use Rattle.book.specs.Meaning.{Meaning, at3, at2, with_ties, with_marks}
use Rattle.book.specs.Calls.{entering, tie_within, mark_within, ranged}
use Rattle.runs.specs.Runs.{answer, after, answered, reached, ranging, Item, tie, mark, there, effect, Unaffected, LastDecides}

pub reached_more : (m : Meaning) (xs ys : List Call) → reached m (xs ++ ys) ≡ reached (reached m xs) ys
reached_more m [] ys = refl
reached_more m (c ∷ xs) ys = reached_more (after m c) xs ys

pub answered_more : (m : Meaning) (xs : List Call) (c : Call) → answered m (xs ++ (c ∷ [])) ≡ answered m xs ++ (answer (reached m xs) c ∷ [])
answered_more m [] c = refl
answered_more m (x ∷ xs) c = ap (λ rs. answer m x ∷ rs) (answered_more (after m x) xs c)

-- what a book holds, by the two ways in which a call may leave it
tied_of : (w : Bool) (m : Meaning) (p : ℕ → ℕ → ℕ → Bool) (l f t : ℕ) → (cond w (with_ties m p) m).tied l f t ≡ cond w (p l f t) (m.tied l f t)
tied_of true m p l f t = refl
tied_of false m p l f t = refl

marked_of : (w : Bool) (m : Meaning) (p : ℕ → ℕ → Bool) (k n : ℕ) → (cond w (with_marks m p) m).marked k n ≡ cond w (p k n) (m.marked k n)
marked_of true m p k n = refl
marked_of false m p k n = refl

ties_marked : (w : Bool) (m : Meaning) (p : ℕ → ℕ → ℕ → Bool) (k n : ℕ) → (cond w (with_ties m p) m).marked k n ≡ m.marked k n
ties_marked true m p k n = refl
ties_marked false m p k n = refl

marks_tied : (w : Bool) (m : Meaning) (p : ℕ → ℕ → Bool) (l f t : ℕ) → (cond w (with_marks m p) m).tied l f t ≡ m.tied l f t
marks_tied true m p l f t = refl
marks_tied false m p l f t = refl

-- an accepted call that settles something of an item is obeyed
obeyed : (m : Meaning) (c : Call) (x : Item) (v : Bool) → answer m c ≡ Ok tt → effect c x ≡ Some v → there (after m c) x ≡ v
obeyed m (Enter u) (tie l f t) v ok s =
    tied_of (isOk (entering m u)) m (at3 m.tied u.label u.from u.to true) l f t ∙ (let w = ap isOk ok in grind (arith, nat_tests, s, w))
obeyed m (Enter u) (mark k n) v ok s = absurd (grind (arith, s))
obeyed m (Strike u) (tie l f t) v ok s =
    tied_of (tie_within m.counts u) m (at3 m.tied u.label u.from u.to false) l f t ∙ grind (arith, nat_tests, s, ok)
obeyed m (Strike u) (mark k n) v ok s = absurd (grind (arith, s))
obeyed m (SetMark g) (tie l f t) v ok s = absurd (grind (arith, s))
obeyed m (SetMark g) (mark k n) v ok s = marked_of (mark_within m.counts g) m (at2 m.marked g.mark g.name true) k n ∙ grind (arith, nat_tests, s, ok)
obeyed m (LiftMark g) (tie l f t) v ok s = absurd (grind (arith, s))
obeyed m (LiftMark g) (mark k n) v ok s = marked_of (mark_within m.counts g) m (at2 m.marked g.mark g.name false) k n ∙ grind (arith, nat_tests, s, ok)

-- a range test that may have passed, and a fact that the call does not speak of
quiet_tie : (m : Meaning) (u : Tie) (l f t : ℕ) (v w : Bool) → (ranging (ranged w) ≡ Ok tt → cond (eqb u.label l && (eqb u.from f && eqb u.to t)) (Some v) None ≡ None)
    → cond w (at3 m.tied u.label u.from u.to v l f t) (m.tied l f t) ≡ m.tied l f t
quiet_tie m u l f t v true q = let s = q refl in grind (arith, nat_tests, s)
quiet_tie m u l f t v false q = refl

quiet_mark : (m : Meaning) (j o k n : ℕ) (v w : Bool) → (ranging (ranged w) ≡ Ok tt → cond (eqb j k && eqb o n) (Some v) None ≡ None)
    → cond w (at2 m.marked j o v k n) (m.marked k n) ≡ m.marked k n
quiet_mark m j o k n v true q = let s = q refl in grind (arith, nat_tests, s)
quiet_mark m j o k n v false q = refl

-- an answer that is no refusal, as a passed range test
as_ranged : (r : Result (Unit {0}) EnterRefusal) → ranging (ranged (isOk r)) ≡ Ok tt → r ≡ Ok tt
as_ranged (Ok u) e = refl
as_ranged (Err e') e = absurd (grind (arith, e))

-- and any other leaves it as it is
unheard : (m : Meaning) (c : Call) (x : Item) → (answer m c ≡ Ok tt → effect c x ≡ None) → there (after m c) x ≡ there m x
unheard m (Enter u) (tie l f t) quiet = tied_of (isOk (entering m u)) m _ l f t ∙ quiet_tie m u l f t true (isOk (entering m u)) (λ e. quiet (as_ranged (entering m u) e))
unheard m (Enter u) (mark k n) quiet = ties_marked (isOk (entering m u)) m _ k n
unheard m (Strike u) (tie l f t) quiet = tied_of (tie_within m.counts u) m _ l f t ∙ quiet_tie m u l f t false (tie_within m.counts u) quiet
unheard m (Strike u) (mark k n) quiet = ties_marked (tie_within m.counts u) m _ k n
unheard m (SetMark g) (tie l f t) quiet = marks_tied (mark_within m.counts g) m _ l f t
unheard m (SetMark g) (mark k n) quiet = marked_of (mark_within m.counts g) m _ k n ∙ quiet_mark m g.mark g.name k n true (mark_within m.counts g) quiet
unheard m (LiftMark g) (tie l f t) quiet = marks_tied (mark_within m.counts g) m _ l f t
unheard m (LiftMark g) (mark k n) quiet = marked_of (mark_within m.counts g) m _ k n ∙ quiet_mark m g.mark g.name k n false (mark_within m.counts g) quiet

-- no call alters the counts or the capacity
cond_counts : (w : Bool) (m n : Meaning) → n.counts ≡ m.counts → (cond w n m).counts ≡ m.counts
cond_counts true m n e = e
cond_counts false m n e = refl

cond_capacity : (w : Bool) (m n : Meaning) → n.capacity ≡ m.capacity → (cond w n m).capacity ≡ m.capacity
cond_capacity true m n e = e
cond_capacity false m n e = refl

after_counts : (m : Meaning) (c : Call) → (after m c).counts ≡ m.counts
after_counts m (Enter u) = cond_counts (isOk (entering m u)) m _ refl
after_counts m (Strike u) = cond_counts (tie_within m.counts u) m _ refl
after_counts m (SetMark g) = cond_counts (mark_within m.counts g) m _ refl
after_counts m (LiftMark g) = cond_counts (mark_within m.counts g) m _ refl

after_capacity : (m : Meaning) (c : Call) → (after m c).capacity ≡ m.capacity
after_capacity m (Enter u) = cond_capacity (isOk (entering m u)) m _ refl
after_capacity m (Strike u) = cond_capacity (tie_within m.counts u) m _ refl
after_capacity m (SetMark g) = cond_capacity (mark_within m.counts g) m _ refl
after_capacity m (LiftMark g) = cond_capacity (mark_within m.counts g) m _ refl

reached_counts : (m : Meaning) (cs : List Call) → (reached m cs).counts ≡ m.counts
reached_counts m [] = refl
reached_counts m (c ∷ cs) = reached_counts (after m c) cs ∙ after_counts m c

reached_capacity : (m : Meaning) (cs : List Call) → (reached m cs).capacity ≡ m.capacity
reached_capacity m [] = refl
reached_capacity m (c ∷ cs) = reached_capacity (after m c) cs ∙ after_capacity m c

unaffected_reached : (m : Meaning) (cs : List Call) (x : Item) → Unaffected m cs x → there (reached m cs) x ≡ there m x
unaffected_reached m [] x u = refl
unaffected_reached m (c ∷ cs) x u = unaffected_reached (after m c) cs x u.1 ∙ unheard m c x u.0

-- The last accepted call that settles something of an item decides.
pub last_decides : (m : Meaning) (cs : List Call) → LastDecides m cs (reached m cs)
last_decides m cs = record {
  counts_stay = reached_counts m cs;
  capacity_stays = reached_capacity m cs;
  unaffected_stays = unaffected_reached m cs;
  last_effect = λ x before c later v e ok s quiet.
      let here = reached_more m before (c ∷ []) in
      let split : reached m cs ≡ reached (reached m (before ++ (c ∷ []))) later =
      ap (reached m) e ∙ reached_more m before (c ∷ later) ∙ ap (λ n. reached n later) (sym here) in
      ap (λ n. there n x) split ∙ unaffected_reached (reached m (before ++ (c ∷ []))) later x quiet ∙ ap (λ n. there n x) here ∙ obeyed (reached m before) c x v ok s;
}

answered-length : (m : Meaning) (cs : List Call) → length (answered m cs) ≡ length cs
answered-length m [] = refl
answered-length m (c ∷ cs) = ap suc (answered-length (after m c) cs)

-- one call on: `old` are the answers' places as they were, and `rs` as the calls before have left them
module _ (m : Meaning) (xs : List Call) (old : List (Result (Unit {0}) EnterRefusal)) (i : ℕ) (d : Call) (in-calls : i < length xs) (in-old : i < length old) where
  pub next_calls : take (i + 1) xs ≡ take i xs ++ (get_or xs i d ∷ [])
  next_calls = take_more xs i d in-calls

  pub next_answers : (rs : List (Result (Unit {0}) EnterRefusal)) (r : Result (Unit {0}) EnterRefusal) (n : Meaning)
      → rs ≡ answered m (take i xs) ++ drop i old → n ≡ reached m (take i xs) → r ≡ answer n (get_or xs i d)
      → set rs i r ≡ answered m (take (i + 1) xs) ++ drop (i + 1) old
  next_answers rs r n is at e =
      let front = answered m (take i xs) in
      let long : length front ≡ i = answered-length m (take i xs) ∙ length-take-le i xs (omega arith) in
      let here = get_or old i (Ok tt) in
      let whole : rs ≡ front ++ (here ∷ drop (i + 1) old) = is ∙ ap (λ ys. front ++ ys) (drop-cons old i (Ok tt) in-old ∙ ap (λ k. here ∷ drop k old) (sym (add-one i))) in
      ap (λ ys. set ys i r) whole ∙ set_at front here (drop (i + 1) old) r i long
      ∙ ap (λ a. front ++ (a ∷ drop (i + 1) old)) (e ∙ ap (λ k. answer k (get_or xs i d)) at)
      ∙ sym (append_assoc front (answer (reached m (take i xs)) (get_or xs i d) ∷ []) (drop (i + 1) old))
      ∙ ap (λ as'. as' ++ drop (i + 1) old) (sym (answered_more m (take i xs) (get_or xs i d)) ∙ ap (answered m) (sym next_calls))

  pub next_reached : (n k : Meaning) → n ≡ reached m (take i xs) → k ≡ after n (get_or xs i d) → k ≡ reached m (take (i + 1) xs)
  next_reached n k at e = e ∙ ap (λ j. after j (get_or xs i d)) at ∙ sym (reached_more m (take i xs) (get_or xs i d ∷ [])) ∙ ap (reached m) (sym next_calls)
