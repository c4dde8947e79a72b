-- Faults of lists and rolls: the functions and what they mean.
use mathlib.Core.List.{cons≢nil}
use Rattle.std.proofs.Common.{◌≡◌, ℕ, zero, suc, ◌+◌, ◌<◌, ◌≤◌, min, Bool, true, false, cond, not, ◌&&◌, leb, ◌⊎◌, ◌≢◌, List as Seq, [], ◌∷◌, length, get_or, take, All, is_none, is_err, Some, None, Ok, Err, Decides, Option, sym, refl, ap, ◌∙◌, subst, inl, inr, add-zero, arith, MatchOption}
use Rattle.std.proofs.lemmas.List.{take_all, get_or_default}
use Rattle.std.proofs.lemmas.List.Elements.{All-nil, All-cons, All-head, All-tail}
use Rattle.std.proofs.lemmas.Bool.{le-leb, leb-true, and_parts, and_from, false≢true, not-false, false_from_ne_true}
use Rattle.std.proofs.lemmas.Bool.Decides.{Decides-and}
use Rattle.std.proofs.lemmas.Option.{none-some, same_Some}
use Rattle.book.specs.Limits.{Within, within, checked}
use Rattle.book.specs.declared.counts.Counts.{Counts}
use Rattle.book.specs.declared.counts.CountRefusal.TheVariants.{OutsideLimits}
use Rattle.text.specs.Text.{words, start_of}
use Rattle.text.specs.Word.{Fine, Wrong, cause_of}
use Rattle.text.specs.declared.word.WordCause.{WordCause}
use Rattle.text.specs.declared.word.WordFault.{WordFault}
use Rattle.text.proofs.Words.{cause_means, fine_cause, wrong_cause}
use Rattle.roll.specs.Lists.{numbered, place_of, Distinct, alone, FirstWrong, ListTold, fault_at, first_fault, distinct, fault_then, list_fault}
use Rattle.roll.specs.declared.list.List.{List}
use Rattle.roll.specs.declared.list.List.TheVariants.{Names, Labels, Marks}
use Rattle.roll.specs.declared.list.ListFault.{ListFault}
use Rattle.roll.specs.declared.list.ListFault.TheVariants.{Word, CountOrRepeat}
use Rattle.roll.proofs.Walks.{place_none, place_word}

-- the first faulty word

fault_move : (ws : Seq (Seq ℕ)) (at to : ℕ) → ((ws ≡ [] → ⊥) → to ≡ at) → first_fault at ws ≡ first_fault to ws
fault_move [] at to h = refl
fault_move (w ∷ ws) at to h = ap (λ n. first_fault n (w ∷ ws)) (sym (h cons≢nil))

pub fault_passed : (at to : ℕ) (l m : Seq (Seq ℕ)) (w : Seq ℕ) → l ≡ w ∷ m → cause_of w ≡ None → ((m ≡ [] → ⊥) → to ≡ at + length w + 1) → first_fault at l ≡ first_fault to m
fault_passed at to l m w is fine h = ap (first_fault at) is ∙ ap (λ o. fault_at at o (first_fault (at + length w + 1) m)) fine ∙ fault_move m (at + length w + 1) to h

pub fault_here : (at : ℕ) (l m : Seq (Seq ℕ)) (w : Seq ℕ) (c : WordCause) → l ≡ w ∷ m → cause_of w ≡ Some c → first_fault at l ≡ Some record { cause = c; at = at }
fault_here at l m w c is e = ap (first_fault at) is ∙ ap (λ o. fault_at at o (first_fault (at + length w + 1) m)) e

caused : (w : Seq ℕ) (o : Option WordCause) → cause_of w ≡ o → MatchOption o (Fine w) (λ c. Wrong w c)
caused w o e = subst (λ x. MatchOption x (Fine w) (λ c. Wrong w c)) e (cause_means w)

cause_cases : (o : Option WordCause) → (o ≡ None) ⊎ ((c : WordCause) × (o ≡ Some c))
cause_cases None = inl refl
cause_cases (Some c) = inr (c, refl)

-- a fault at words of which the first begins at the byte `at`
record WrongFrom (at : ℕ) (ws : Seq (Seq ℕ)) (f : WordFault WordCause) : Type 0 where
  pub place : ℕ
  pub there : place < length ws
  pub before : All Fine (take place ws)
  pub here : Wrong (get_or ws place []) f.cause
  pub starts : f.at ≡ at + start_of place ws

wrong_head : (at : ℕ) (w : Seq ℕ) (ws : Seq (Seq ℕ)) (c : WordCause) (f : WordFault WordCause) → cause_of w ≡ Some c → ◌≡◌ {A = WordFault WordCause} record { cause = c; at = at } f → WrongFrom at (w ∷ ws) f
wrong_head at w ws c f e is = record {
  place = 0;
  there = omega arith;
  before = All-nil Fine;
  here = subst (Wrong w) (ap (λ x. x.cause) is) (caused w (Some c) e);
  starts = sym (ap (λ x. x.at) is) ∙ sym (add-zero at);
}

wrong_tail : (at : ℕ) (w : Seq ℕ) (ws : Seq (Seq ℕ)) (f : WordFault WordCause) → cause_of w ≡ None → WrongFrom (at + length w + 1) ws f → WrongFrom at (w ∷ ws) f
wrong_tail at w ws f e r = record {
  place = suc r.place;
  there = omega (arith, r.there);
  before = All-cons Fine w (take r.place ws) (caused w None e) r.before;
  here = r.here;
  starts = r.starts ∙ omega arith;
}

wrong_from : (ws : Seq (Seq ℕ)) (at : ℕ) (f : WordFault WordCause) → first_fault at ws ≡ Some f → WrongFrom at ws f
wrong_from [] at f e = absurd (none-some f e)
wrong_from (w ∷ ws) at f e =
    elim (cause_cases (cause_of w)) [
      | inl n ↦ wrong_tail at w ws f n (wrong_from ws (at + length w + 1) f (sym (fault_passed at (at + length w + 1) (w ∷ ws) ws w refl n (λ _. refl)) ∙ e))
      | inr s ↦ wrong_head at w ws s.0 f s.1 (same_Some _ _ (sym (fault_here at (w ∷ ws) ws w s.0 refl s.1) ∙ e))
    ]

first_wrong : (ws : Seq (Seq ℕ)) (f : WordFault WordCause) → first_fault 0 ws ≡ Some f → FirstWrong ws f
first_wrong ws f e =
    let r = wrong_from ws 0 f e in
    record { place = r.place; there = r.there; before = r.before; here = r.here; starts = r.starts ∙ omega arith }

wrong_first : (ws : Seq (Seq ℕ)) (place at : ℕ) (f : WordFault WordCause) → place < length ws → All Fine (take place ws) → Wrong (get_or ws place []) f.cause → f.at ≡ at + start_of place ws → first_fault at ws ≡ Some f
wrong_first [] place at f lt before here starts = absurd (omega arith)
wrong_first (w ∷ ws) zero at f lt before here starts =
    fault_here at (w ∷ ws) ws w f.cause refl (wrong_cause w f.cause here) ∙ ap (λ n. Some record { cause = f.cause; at = n }) (sym (starts ∙ add-zero at))
wrong_first (w ∷ ws) (suc place) at f lt before here starts =
    fault_passed at (at + length w + 1) (w ∷ ws) ws w refl (fine_cause w (All-head Fine w (take place ws) before)) (λ _. refl)
    ∙ wrong_first ws place (at + length w + 1) f (omega arith) (All-tail Fine w (take place ws) before) here (starts ∙ omega arith)

each_fine : (ws : Seq (Seq ℕ)) (at : ℕ) → first_fault at ws ≡ None → All Fine ws
each_fine [] at e = All-nil Fine
each_fine (w ∷ ws) at e =
    elim (cause_cases (cause_of w)) [
      | inl n ↦ All-cons Fine w ws (caused w None n) (each_fine ws (at + length w + 1) (sym (fault_passed at (at + length w + 1) (w ∷ ws) ws w refl n (λ _. refl)) ∙ e))
      | inr s ↦ absurd (none-some _ (sym e ∙ fault_here at (w ∷ ws) ws w s.0 refl s.1))
    ]

fine_first : (ws : Seq (Seq ℕ)) (at : ℕ) → All Fine ws → first_fault at ws ≡ None
fine_first [] at h = refl
fine_first (w ∷ ws) at h =
    fault_passed at (at + length w + 1) (w ∷ ws) ws w refl (fine_cause w (All-head Fine w ws h)) (λ _. refl) ∙ fine_first ws (at + length w + 1) (All-tail Fine w ws h)

-- the words together

none_is : (o : Option ℕ) → is_none o ≡ true → o ≡ None
none_is None e = refl
none_is (Some k) e = absurd (false≢true e)

present : (o : Option ℕ) → ((k : ℕ) → o ≡ Some k → ⊥) → is_none o ≡ true
present None h = refl
present (Some k) h = absurd (h k refl)

distinct_cons : (w : Seq ℕ) (ws : Seq (Seq ℕ)) → ((j : ℕ) → j < length ws → get_or ws j [] ≢ w) → Distinct ws → Distinct (w ∷ ws)
distinct_cons w ws h apart i zero d lt jl e = absurd (omega arith)
distinct_cons w ws h apart zero (suc j) d lt jl e = h j (omega arith) (get_or_default ws j [] d (omega arith) ∙ sym e)
distinct_cons w ws h apart (suc i) (suc j) d lt jl e = apart i j d (omega arith) (omega arith) e

pub decides_distinct : (ws : Seq (Seq ℕ)) → Decides (distinct ws) (Distinct ws)
decides_distinct [] = (λ _ i j d lt jl. absurd (omega arith), λ _. refl)
decides_distinct (w ∷ ws) = (
  λ e. let p = and_parts (is_none (place_of w ws)) (distinct ws) e in distinct_cons w ws (place_none w ws (none_is (place_of w ws) p.0)) ((decides_distinct ws).0 p.1),
  λ apart. and_from _ _
      (present (place_of w ws) (λ k e. let p = place_word ws w k e in apart 0 (suc k) [] (omega arith) (omega (arith, p.0)) (sym p.1)))
      ((decides_distinct ws).1 (λ i j d lt jl e. apart (suc i) (suc j) d (omega arith) (omega arith) e)),
)

pub decides_within : (c : Counts) → Decides (within c) (Within c)
decides_within c = (
  λ e.
      let p = and_parts (leb 1 c.names && leb c.names 64 && leb c.labels 16) (leb c.marks 16) e in
      let q = and_parts (leb 1 c.names && leb c.names 64) (leb c.labels 16) p.0 in
      let r = and_parts (leb 1 c.names) (leb c.names 64) q.0 in
      record { some_name = leb-true _ _ r.0; few_names = leb-true _ _ r.1; few_labels = leb-true _ _ q.1; few_marks = leb-true _ _ p.1 },
  λ h. and_from _ _ (and_from _ _ (and_from _ _ (le-leb _ _ h.some_name) (le-leb _ _ h.few_names)) (le-leb _ _ h.few_labels)) (le-leb _ _ h.few_marks),
)

-- a list has at most 64 words
pub few : (list : List) (n : ℕ) → Within (alone list n) → n ≤ 64
few Names n h = h.few_names
few Labels n h = omega (arith, h.few_labels)
few Marks n h = omega (arith, h.few_marks)

pub numbered_all : (list : List) (t : Seq ℕ) → Within (alone list (length (words t))) → numbered t ≡ words t
numbered_all list t h = take_all 64 (words t) (few list (length (words t)) h)

-- lists

decides_together : (list : List) (ws : Seq (Seq ℕ)) → Decides (within (alone list (length ws)) && distinct ws) (Within (alone list (length ws)) × Distinct ws)
decides_together list ws = Decides-and _ _ (decides_within (alone list (length ws))) (decides_distinct ws)

told_by : (list : List) (ws : Seq (Seq ℕ)) (o : Option (WordFault WordCause)) (b : Bool) → first_fault 0 ws ≡ o → Decides b (Within (alone list (length ws)) × Distinct ws) → ListTold list ws (fault_then o b)
told_by list ws (Some f) b e d = first_wrong ws f e
told_by list ws None true e d = record { fine = each_fine ws 0 e; within = (d.0 refl).0; apart = (d.0 refl).1 }
told_by list ws None false e d = record { fine = each_fine ws 0 e; not_both = λ w a. false≢true (d.1 (w, a)) }

pub list_told : (list : List) (ws : Seq (Seq ℕ)) → ListTold list ws (list_fault list ws)
list_told list ws = told_by list ws (first_fault 0 ws) _ refl (decides_together list ws)

faulty : (list : List) (ws : Seq (Seq ℕ)) (o : Option (WordFault WordCause)) (b : Bool) → first_fault 0 ws ≡ o → within (alone list (length ws)) && distinct ws ≡ b → fault_then o b ≡ list_fault list ws
faulty list ws o b e h = ap (λ x. fault_then x b) (sym e) ∙ ap (fault_then (first_fault 0 ws)) (sym h)

pub list_only : (list : List) (ws : Seq (Seq ℕ)) (x : Option ListFault) → ListTold list ws x → x ≡ list_fault list ws
list_only list ws None h = faulty list ws None true (fine_first ws 0 h.fine) ((decides_together list ws).1 (h.within, h.apart))
list_only list ws (Some (Word f)) h = faulty list ws (Some f) _ (wrong_first ws h.place 0 f h.there h.before h.here (h.starts ∙ omega arith)) refl
list_only list ws (Some CountOrRepeat) h =
    faulty list ws None false (fine_first ws 0 h.fine) (false_from_ne_true _ (λ t. let p = (decides_together list ws).0 t in h.not_both p.0 p.1))

-- what is told is the function's answer, and nothing else is
pub list_as_told : (list : List) (ws : Seq (Seq ℕ)) (x : Option ListFault) → x ≡ list_fault list ws → ListTold list ws x × ((y : Option ListFault) → ListTold list ws y → y ≡ x)
list_as_told list ws x e = (subst (ListTold list ws) (sym e) (list_told list ws), λ y h. list_only list ws y h ∙ sym e)

pub list_told_only : (list : List) (ws : Seq (Seq ℕ)) (x y : Option ListFault) → x ≡ list_fault list ws → ListTold list ws y → y ≡ x
list_told_only list ws x y e h = (list_as_told list ws x e).1 y h

-- what the check of a list finds where each word is fine by itself

err_test : (b : Bool) → is_err {T = Unit {0}} (cond b (Ok tt) (Err OutsideLimits)) ≡ not b
err_test true = refl
err_test false = refl

within_if : (c : Counts) → is_err (checked c) ≡ false → Within c
within_if c e = (decides_within c).0 (not-false _ (sym (err_test (within c)) ∙ e))

module _ (list : List) (ws : Seq (Seq ℕ)) (count : ℕ) (is : count ≡ min 65 (length ws)) (fine : first_fault 0 ws ≡ None) where
  pub repeated : (Distinct (take 64 ws) → ⊥) → Some CountOrRepeat ≡ list_fault list ws
  repeated h =
      list_only list ws (Some CountOrRepeat) record {
        fine = each_fine ws 0 fine;
        not_both = λ w apart. h (subst Distinct (sym (take_all 64 ws (few list (length ws) w))) apart);
      }

  pub accepted : is_err (checked (alone list count)) ≡ false → Distinct (take 64 ws) → None ≡ list_fault list ws
  accepted e apart =
      let within = within_if (alone list count) e in
      let exact : count ≡ length ws = omega (arith, few list count within) in
      list_only list ws None record {
        fine = each_fine ws 0 fine;
        within = subst (λ n. Within (alone list n)) exact within;
        apart = subst Distinct (take_all 64 ws (omega (arith, exact, few list count within))) apart;
      }
