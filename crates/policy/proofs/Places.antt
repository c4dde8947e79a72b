-- First places: the functions and the relations, and what the relations say.
use Rattle.std.proofs.Common.{◌≡◌, ℕ, ◌+◌, ◌<◌, ◌≤◌, Bool, true, false, cond, not, ◌||◌, ◌⊎◌, Some, None, Option, sym, refl, ap, ◌∙◌, inl, inr, arith, length-append}
use Rattle.std.proofs.lemmas.Bool.{true≢false, false≢true, or_cases, or_left, or_right, and_parts, and_from, not-true, not_from_false, true_from_ne_false}
use Rattle.policy_words.specs.Tree.{Formula, words, steps}
use Rattle.policy_words.specs.Tree.Formula.{is, same, has, neg, both, either, at_letter, at_name, bind, some}
use Rattle.policy_words.specs.declared.word.Letter.{Letter}
use Rattle.policy_words.specs.declared.word.Letter.TheVariants as L
use Rattle.policy.specs.Letters.{alike, given, setting}
use Rattle.policy.specs.Table.{size, extent}
use Rattle.policy.specs.Free.{free, Later, Loose, First, Nowhere, first, later, first_loose, ClosedIsFree}
use Rattle.policy.specs.Anchor.{Anchored, Stray, first_stray, AnchoredIsAstrayNowhere}
use Rattle.policy.specs.Anchor.Anchored.{at_requester, at_resource, not as a_not, and as a_and, or as a_or}

abbrev pub Tells : Option ℕ → (ℕ → Type 0) → Type 0
Tells None P = Nowhere P
Tells (Some k) P = First P k

tells_later : (n : ℕ) (o : Option ℕ) (P : ℕ → Type 0) → Tells o P → Tells (later n o) (Later n P)
tells_later n None P t = λ k h. t h.0 h.2
tells_later n (Some k) P t = ((k, refl, t.0), λ j h. omega (arith, t.1 h.0 h.2, h.1))

tells_first : (o p : Option ℕ) (P Q : ℕ → Type 0) → Tells o P → Tells p Q → ((i j : ℕ) → P i → Q j → i ≤ j) → Tells (first o p) (λ k. P k ⊎ Q k)
tells_first None None P Q t u le = λ k h. elim h [ inl a ↦ t k a | inr b ↦ u k b ]
tells_first None (Some q) P Q t u le = (inr u.0, λ j h. elim h [ inl a ↦ absurd (t j a) | inr b ↦ u.1 j b ])
tells_first (Some i) p P Q t u le = (inl t.0, λ j h. elim h [ inl a ↦ t.1 j a | inr b ↦ le i j t.0 b ])

one_place : (b : Bool) → Tells (cond b None (Some 0)) (λ k. (k ≡ 0) × (b ≡ false))
one_place true = λ k h. true≢false h.1
one_place false = ((refl, refl), λ j h. omega arith)

only_start : Tells (Some 0) (λ k. k ≡ 0)
only_start = (refl, λ j h. omega arith)

pub loose_below : (f : Formula) (s : Letter → Bool) (k : ℕ) → Loose s f k → k < size f
loose_below (is n) s k h = absurd h
loose_below (same v) s k h = omega (arith, h.0)
loose_below (has m) s k h = absurd h
loose_below (neg f) s k h = omega (arith, h.1, loose_below f s h.0 h.2)
loose_below (both f g) s k h = grind (arith, loose_below f s, loose_below g s, length-append (words f) (words g))
loose_below (either f g) s k h = grind (arith, loose_below f s, loose_below g s, length-append (words f) (words g))
loose_below (at_letter v f) s k h = elim h [ inl a ↦ omega (arith, a.0) | inr b ↦ omega (arith, b.1, loose_below f s b.0 b.2) ]
loose_below (at_name n f) s k h = omega (arith, h.1, loose_below f s h.0 h.2)
loose_below (bind v f) s k h = omega (arith, h.1, loose_below f (setting v s) h.0 h.2)
loose_below (some p f) s k h = omega (arith, h.1, loose_below f s h.0 h.2, length-append (steps p) (words f))

pub stray_below : (f : Formula) (k : ℕ) → Stray f k → k < size f
stray_below (is n) k h = omega arith
stray_below (same v) k h = omega arith
stray_below (has m) k h = omega arith
stray_below (neg f) k h = omega (arith, h.1, stray_below f h.0 h.2)
stray_below (both f g) k h = grind (arith, stray_below f, stray_below g, length-append (words f) (words g))
stray_below (either f g) k h = grind (arith, stray_below f, stray_below g, length-append (words f) (words g))
stray_below (at_letter v f) k h = omega (arith, h.0)
stray_below (at_name n f) k h = omega arith
stray_below (bind v f) k h = omega arith
stray_below (some p f) k h = omega arith

pub tells_loose : (f : Formula) (s : Letter → Bool) → Tells (first_loose s f) (Loose s f)
tells_loose (is n) s = λ k h. h
tells_loose (same v) s = one_place (s v)
tells_loose (has m) s = λ k h. h
tells_loose (neg f) s = tells_later 1 _ _ (tells_loose f s)
tells_loose (both f g) s = tells_first _ _ _ _ (tells_later 1 _ _ (tells_loose f s)) (tells_later (1 + size f) _ _ (tells_loose g s)) (λ i j a b. omega (arith, a.1, b.1, loose_below f s a.0 a.2))
tells_loose (either f g) s = tells_first _ _ _ _ (tells_later 1 _ _ (tells_loose f s)) (tells_later (1 + size f) _ _ (tells_loose g s)) (λ i j a b. omega (arith, a.1, b.1, loose_below f s a.0 a.2))
tells_loose (at_letter v f) s = tells_first _ _ _ _ (one_place (s v)) (tells_later 1 _ _ (tells_loose f s)) (λ i j a b. omega (arith, a.0))
tells_loose (at_name n f) s = tells_later 1 _ _ (tells_loose f s)
tells_loose (bind v f) s = tells_later 1 _ _ (tells_loose f (setting v s))
tells_loose (some p f) s = tells_later (1 + extent p) _ _ (tells_loose f s)

pub tells_stray : (f : Formula) → Tells (first_stray f) (Stray f)
tells_stray (is n) = only_start
tells_stray (same v) = only_start
tells_stray (has m) = only_start
tells_stray (neg f) = tells_later 1 _ _ (tells_stray f)
tells_stray (both f g) = tells_first _ _ _ _ (tells_later 1 _ _ (tells_stray f)) (tells_later (1 + size f) _ _ (tells_stray g)) (λ i j a b. omega (arith, a.1, b.1, stray_below f a.0 a.2))
tells_stray (either f g) = tells_first _ _ _ _ (tells_later 1 _ _ (tells_stray f)) (tells_later (1 + size f) _ _ (tells_stray g)) (λ i j a b. omega (arith, a.1, b.1, stray_below f a.0 a.2))
tells_stray (at_letter v f) = one_place (given v)
tells_stray (at_name n f) = only_start
tells_stray (bind v f) = only_start
tells_stray (some p f) = only_start

-- letters
alike_same : (v u : Letter) → alike v u ≡ true → v ≡ u
alike_same v u e = grind arith

pub alike_self : (u : Letter) → alike u u ≡ true
alike_self u = grind arith

or_other : (a b : Bool) → a ≡ false → (a || b) ≡ true → b ≡ true
or_other a b e h = grind arith

set_there : (s : Letter → Bool) (v u : Letter) → alike v u ≡ true → s u ≡ true → s v ≡ true
set_there s v u e h = ap s (alike_same v u e) ∙ h

-- no loose word: only letters that are set are free
free_set : (f : Formula) (s : Letter → Bool) → Nowhere (Loose s f) → (v : Letter) → free v f ≡ true → s v ≡ true
free_set (is n) s h v e = absurd (false≢true e)
free_set (same u) s h v e = set_there s v u e (true_from_ne_false (s u) (λ x. h 0 (refl, x)))
free_set (has m) s h v e = absurd (false≢true e)
free_set (neg f) s h v e = free_set f s (λ k l. h (1 + k) (k, refl, l)) v e
free_set (both f g) s h v e = elim (or_cases (free v f) (free v g) e) [
  | inl a ↦ free_set f s (λ k l. h (1 + k) (inl (k, refl, l))) v a
  | inr b ↦ free_set g s (λ k l. h (1 + size f + k) (inr (k, refl, l))) v b
]
free_set (either f g) s h v e = elim (or_cases (free v f) (free v g) e) [
  | inl a ↦ free_set f s (λ k l. h (1 + k) (inl (k, refl, l))) v a
  | inr b ↦ free_set g s (λ k l. h (1 + size f + k) (inr (k, refl, l))) v b
]
free_set (at_letter u f) s h v e = elim (or_cases (alike v u) (free v f) e) [
  | inl a ↦ set_there s v u a (true_from_ne_false (s u) (λ x. h 0 (inl (refl, x))))
  | inr b ↦ free_set f s (λ k l. h (1 + k) (inr (k, refl, l))) v b
]
free_set (at_name n f) s h v e = free_set f s (λ k l. h (1 + k) (k, refl, l)) v e
free_set (bind u f) s h v e =
    let p = and_parts (not (alike v u)) (free v f) e in
    or_other (alike v u) (s v) (not-true (alike v u) p.0) (free_set f (setting u s) (λ k l. h (1 + k) (k, refl, l)) v p.1)
free_set (some p f) s h v e = free_set f s (λ k l. h (1 + extent p + k) (k, refl, l)) v e

free_under_bind : (s : Letter → Bool) (v u : Letter) (b : Bool) → alike v u ≡ b → (b ≡ false → s v ≡ true) → setting u s v ≡ true
free_under_bind s v u true e h = or_left (alike v u) (s v) e
free_under_bind s v u false e h = or_right (alike v u) (s v) (h refl)

set_nowhere : (f : Formula) (s : Letter → Bool) → ((v : Letter) → free v f ≡ true → s v ≡ true) → Nowhere (Loose s f)
set_nowhere (is n) s h k l = l
set_nowhere (same u) s h k l = true≢false (sym (h u (alike_self u)) ∙ l.1)
set_nowhere (has m) s h k l = l
set_nowhere (neg f) s h k l = set_nowhere f s h l.0 l.2
set_nowhere (both f g) s h k l = elim l [
  | inl a ↦ set_nowhere f s (λ v e. h v (or_left (free v f) (free v g) e)) a.0 a.2
  | inr b ↦ set_nowhere g s (λ v e. h v (or_right (free v f) (free v g) e)) b.0 b.2
]
set_nowhere (either f g) s h k l = elim l [
  | inl a ↦ set_nowhere f s (λ v e. h v (or_left (free v f) (free v g) e)) a.0 a.2
  | inr b ↦ set_nowhere g s (λ v e. h v (or_right (free v f) (free v g) e)) b.0 b.2
]
set_nowhere (at_letter u f) s h k l = elim l [
  | inl a ↦ true≢false (sym (h u (or_left (alike u u) (free u f) (alike_self u))) ∙ a.1)
  | inr b ↦ set_nowhere f s (λ v e. h v (or_right (alike v u) (free v f) e)) b.0 b.2
]
set_nowhere (at_name n f) s h k l = set_nowhere f s h l.0 l.2
set_nowhere (bind u f) s h k l = set_nowhere f (setting u s) (λ v e. free_under_bind s v u (alike v u) refl (λ x. h v (and_from (not (alike v u)) (free v f) (not_from_false (alike v u) x) e))) l.0 l.2
set_nowhere (some p f) s h k l = set_nowhere f s h l.0 l.2

pub closed_is_free : ClosedIsFree
closed_is_free f = (free_set f given, set_nowhere f given)

-- anchored: no word is stray
pub anchored_nowhere : (f : Formula) → Anchored f → Nowhere (Stray f)
anchored_nowhere _ (at_requester f) k h = true≢false h.1
anchored_nowhere _ (at_resource f) k h = true≢false h.1
anchored_nowhere _ (a_not f a) k h = anchored_nowhere f a h.0 h.2
anchored_nowhere _ (a_and f g a b) k h = elim h [ inl x ↦ anchored_nowhere f a x.0 x.2 | inr y ↦ anchored_nowhere g b y.0 y.2 ]
anchored_nowhere _ (a_or f g a b) k h = elim h [ inl x ↦ anchored_nowhere f a x.0 x.2 | inr y ↦ anchored_nowhere g b y.0 y.2 ]

at_given : (v : Letter) (f : Formula) → Nowhere (Stray (at_letter v f)) → Anchored (at_letter v f)
at_given L.Requester f h = at_requester f
at_given L.Resource f h = at_resource f
at_given L.A f h = absurd (h 0 (refl, refl))
at_given L.B f h = absurd (h 0 (refl, refl))

pub nowhere_anchored : (f : Formula) → Nowhere (Stray f) → Anchored f
nowhere_anchored (is n) h = absurd (h 0 refl)
nowhere_anchored (same v) h = absurd (h 0 refl)
nowhere_anchored (has m) h = absurd (h 0 refl)
nowhere_anchored (neg f) h = a_not f (nowhere_anchored f (λ k s. h (1 + k) (k, refl, s)))
nowhere_anchored (both f g) h = a_and f g (nowhere_anchored f (λ k s. h (1 + k) (inl (k, refl, s)))) (nowhere_anchored g (λ k s. h (1 + size f + k) (inr (k, refl, s))))
nowhere_anchored (either f g) h = a_or f g (nowhere_anchored f (λ k s. h (1 + k) (inl (k, refl, s)))) (nowhere_anchored g (λ k s. h (1 + size f + k) (inr (k, refl, s))))
nowhere_anchored (at_letter v f) h = at_given v f h
nowhere_anchored (at_name n f) h = absurd (h 0 refl)
nowhere_anchored (bind v f) h = absurd (h 0 refl)
nowhere_anchored (some p f) h = absurd (h 0 refl)

pub anchored_is : AnchoredIsAstrayNowhere
anchored_is f = (anchored_nowhere f, nowhere_anchored f)

-- where P has no place, what tells of it is None
pub told_none : (o : Option ℕ) (P : ℕ → Type 0) → Tells o P → Nowhere P → o ≡ None
told_none None P t h = refl
told_none (Some k) P t h = absurd (h k t.0)
