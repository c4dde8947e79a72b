-- For every roll and every text exactly one answer is to be told.
use Rattle.std.proofs.Common.{◌≡◌, ℕ, ◌+◌, ◌<◌, ◌≤◌, ◌⊎◌, List, [], ◌∷◌, ◌++◌, length, get_or, take, drop, Ok, Err, Result, sym, refl, ap, ◌∙◌, subst, inl, inr, append_assoc, append-nil, arith, take-append-drop}
use Rattle.std.proofs.lemmas.List.{take_more, take_all, get_or-take, length-take-le, take-take}
use Rattle.std.proofs.lemmas.Bool.{cases_lt}
use Rattle.text.specs.Text.{words as text_words, start_of}
use Rattle.roll.specs.declared.roll.Roll.{Roll}
use Rattle.policy_words.specs.Tree.{Formula, words, Whole, Begins, Unfinished}
use Rattle.policy_words.specs.declared.word.Word.{Word}
use Rattle.policy_words.specs.declared.word.Word.TheVariants as W
use Rattle.policy_words.proofs.Unique.{one_tree, prefix_free}
use Rattle.policy.specs.Letters.{given}
use Rattle.policy.specs.Free.{Loose, First, Closed}
use Rattle.policy.specs.Anchor.{Anchored, Stray}
use Rattle.policy.specs.declared.policy.Policy.{Policy}
use Rattle.policy.proofs.Places.{anchored_nowhere}
use Rattle.policy_reader.specs.Spell.{Spells, Wrong}
use Rattle.policy_reader.specs.Told.{EachSpells, Reaches, Told, Gave}
use Rattle.policy_reader.specs.declared.fault.Cause.{Cause}
use Rattle.policy_reader.specs.declared.fault.PolicyFault.{PolicyFault}
use Rattle.policy_reader.specs.declared.fault.PolicyFault.TheVariants as P
use Rattle.policy_reader.proofs.OneWord.{spells_one, wrong_spells, wrong_one}
use Rattle.policy_reader.proofs.Telling.{each_length, each_take, each_at}

each_one : (r : Roll) (vs us : List Word) (bs : List (List ℕ)) → EachSpells r vs bs → EachSpells r us bs → vs ≡ us
each_one r [] [] bs x y = refl
each_one r [] (u ∷ us) [] x y = absurd y
each_one r [] (u ∷ us) (b ∷ bs) x y = absurd x
each_one r (v ∷ vs) us [] x y = absurd x
each_one r (v ∷ vs) [] (b ∷ bs) x y = absurd y
each_one r (v ∷ vs) (u ∷ us) (b ∷ bs) x y = λ i. spells_one r v u b x.0 y.0 i ∷ each_one r vs us bs x.1 y.1 i

-- a whole formula is not the beginning of a longer one
whole_open : (vs : List Word) → Whole vs → Unfinished vs → ⊥
whole_open vs w u = prefix_free w.0 u.0 u.1 u.2 (u.3 ∙ ap (λ l. l ++ u.1 ∷ u.2) (sym w.1))

begins_take : (us : List Word) (n : ℕ) → Begins us → Begins (take n us)
begins_take us n b = (b.0, drop n us ++ b.1, b.2 ∙ ap (λ l. l ++ b.1) (sym (take-append-drop n us)) ∙ append_assoc (take n us) (drop n us) b.1)

whole_begins : (vs : List Word) → Whole vs → Begins vs
whole_begins vs w = (w.0, [], w.1 ∙ sym (append-nil vs))

open_begins : (vs : List Word) → Unfinished vs → Begins vs
open_begins vs u = (u.0, u.1 ∷ u.2, u.3)

module _ (r : Roll) (t : List ℕ) where
  abbrev ws : List (List ℕ)
  ws = text_words t

  -- the words vs are read, and the word after them, if there is one, is not
  record Halt (k : ℕ) (vs : List Word) : Type 0 where
    before : EachSpells r vs (take k ws)
    within : k ≤ length ws
    few : k ≤ 64
    begun : Begins vs
    stuck : (w : Word) → k < length ws → k < 64 → Spells r w (get_or ws k []) → Begins (vs ++ w ∷ []) → ⊥

  not_after : (k j : ℕ) (vs us : List Word) → Halt k vs → Halt j us → k < j → ⊥
  not_after k j vs us a b lt =
      let there : k < length ws = omega (arith, b.within) in
      let long : length us ≡ j = each_length r us (take j ws) b.before ∙ length-take-le j ws b.within in
      let w = get_or us k (W.Name 0) in
      let s : Spells r w (get_or ws k []) = subst (Spells r w) (get_or-take j ws k [] lt) (each_at r us (take j ws) k b.before (omega (arith, long))) in
      let same : take k us ≡ vs = each_one r (take k us) vs (take k ws) (subst (EachSpells r (take k us)) (take-take k j ws (omega arith)) (each_take r us (take j ws) k b.before)) a.before in
      a.stuck w there (omega (arith, b.few)) s (subst Begins (take_more us k (W.Name 0) (omega (arith, long)) ∙ ap (λ l. l ++ w ∷ []) same) (begins_take us (k + 1) b.begun))

  same_place : (k j : ℕ) (vs us : List Word) → Halt k vs → Halt j us → k ≡ j
  same_place k j vs us a b = elim (cases_lt k j) [
    | inl lt ↦ absurd (not_after k j vs us a b lt)
    | inr ge ↦ elim (cases_lt j k) [ inl lt ↦ absurd (not_after j k us vs b a lt) | inr le ↦ omega arith ]
  ]

  same_words : (k j : ℕ) (vs us : List Word) → Halt k vs → Halt j us → vs ≡ us
  same_words k j vs us a b = each_one r vs us (take k ws) a.before (subst (λ n. EachSpells r us (take n ws)) (sym (same_place k j vs us a b)) b.before)

  abbrev Answer : Type 0
  Answer = Result Formula PolicyFault

  -- word k is due: it is the 65th, is faulty by itself, or is of the wrong kind
  abbrev Due : ℕ → Answer → Type 0
  Due k x =
      ((k ≡ 64) × (x ≡ Err (P.TooMany (start_of k ws))))
      ⊎ ((k < 64) × (((c : Cause) × Wrong r (get_or ws k []) c × (x ≡ Err (P.Word record { cause = c; at = start_of k ws }))) ⊎ ((w : Word) × Spells r w (get_or ws k []) × (x ≡ Err (P.Kind (start_of k ws))))))

  -- the text goes on with word k after the words vs: the formula is finished, or not
  abbrev More : ℕ → List Word → Answer → Type 0
  More k vs x = (Whole vs × (x ≡ Err (P.After (start_of k ws)))) ⊎ (Unfinished vs × Due k x)

  -- the formula is closed: a word keeps it from being anchored, or none
  abbrev Anchors : Formula → Answer → Type 0
  Anchors f x = ((j : ℕ) × First (Stray f) j × (x ≡ Err (P.Unanchored (start_of j ws)))) ⊎ (Anchored f × (x ≡ Ok f))

  -- the text spells the formula: a word is loose, or none
  abbrev Letters : Formula → Answer → Type 0
  Letters f x = ((j : ℕ) × First (Loose given f) j × (x ≡ Err (P.Loose (start_of j ws)))) ⊎ (Closed f × Anchors f x)

  -- the text is over after the words vs: the formula is not finished, or it is
  abbrev Over : List Word → Answer → Type 0
  Over vs x = (Unfinished vs × (x ≡ Err (P.Short (length t)))) ⊎ ((f : Formula) × (vs ≡ words f) × Letters f x)

  -- what is told where the first k words vs are read
  abbrev Case : ℕ → List Word → Answer → Type 0
  Case k vs x = ((k < length ws) × More k vs x) ⊎ ((k ≡ length ws) × Over vs x)

  record At (x : Answer) : Type 0 where
    k : ℕ
    vs : List Word
    halt : Halt k vs
    is : Case k vs x

  at_word : (k n : ℕ) (vs : List Word) (x : Answer) → Reaches r t k n vs → k ≤ 64 → Begins vs → ((w : Word) → k < 64 → Spells r w (get_or ws k []) → Begins (vs ++ w ∷ []) → ⊥) → (n ≡ start_of k ws → More k vs x) → At x
  at_word k n vs x h le b stop more = record {
    k = k;
    vs = vs;
    halt = record { before = h.before; within = omega (arith, h.there); few = le; begun = b; stuck = λ w _. stop w };
    is = inl (h.there, more h.place);
  }

  at_end : (vs : List Word) (x : Answer) → EachSpells r vs ws → length ws ≤ 64 → Begins vs → Over vs x → At x
  at_end vs x h le b over = record {
    k = length ws;
    vs = vs;
    halt = record { before = subst (EachSpells r vs) (sym (take_all (length ws) ws (omega arith))) h; within = omega arith; few = le; begun = b; stuck = λ w lt. absurd (omega arith) };
    is = inr (refl, over);
  }

  at : (x : Answer) → Told r t x → At x
  at (Ok f) h = at_end (words f) (Ok f) h.0.0 h.0.1 (whole_begins (words f) (f, refl)) (inr (f, refl, inr (h.1, inr (h.2, refl))))
  at (Err (P.After n)) h =
      at_word h.0 n h.1 _ h.2 h.3 (whole_begins h.1 h.4)
      (λ w lt s b. prefix_free h.4.0 b.0 w b.1 (b.2 ∙ append_assoc h.1 (w ∷ []) b.1 ∙ ap (λ l. l ++ w ∷ b.1) (sym h.4.1)))
      (λ e. inl (h.4, ap (λ i. Err (P.After i)) e))
  at (Err (P.TooMany n)) h =
      at_word h.0 n h.1 _ h.2 (omega (arith, h.3)) (open_begins h.1 h.4)
      (λ w lt. absurd (omega (arith, h.3)))
      (λ e. inr (h.4, inl (h.3, ap (λ i. Err (P.TooMany i)) e)))
  at (Err (P.Word f)) h =
      at_word h.0 f.at h.1 _ h.2 (omega (arith, h.3)) (open_begins h.1 h.4)
      (λ w lt s b. wrong_spells r _ f.cause w h.5 s)
      (λ e. inr (h.4, inr (h.3, inl (f.cause, h.5, ap (λ i. Err (P.Word record { cause = f.cause; at = i })) e))))
  at (Err (P.Kind n)) h =
      at_word h.0 n h.1 _ h.2 (omega (arith, h.3)) (open_begins h.1 h.4)
      (λ w lt s b. h.5.2 (subst (λ v. Begins (h.1 ++ v ∷ [])) (spells_one r w h.5.0 _ s h.5.1) b))
      (λ e. inr (h.4, inr (h.3, inr (h.5.0, h.5.1, ap (λ i. Err (P.Kind i)) e))))
  at (Err (P.Short n)) h = at_end h.0 _ h.1 h.2 (open_begins h.0 h.3) (inl (h.3, ap (λ i. Err (P.Short i)) h.4))
  at (Err (P.Loose n)) h = at_end (words h.0) _ h.2.0 h.2.1 (whole_begins (words h.0) (h.0, refl)) (inr (h.0, refl, inl (h.1, h.3, ap (λ i. Err (P.Loose i)) h.4)))
  at (Err (P.Unanchored n)) h = at_end (words h.0) _ h.2.0 h.2.1 (whole_begins (words h.0) (h.0, refl)) (inr (h.0, refl, inr (h.3, inl (h.1, h.4, ap (λ i. Err (P.Unanchored i)) h.5))))

  -- two alternatives that exclude each other, each with one answer
  apart : {A B : Answer → Type 0} → ((x y : Answer) → A x → A y → x ≡ y) → ((x y : Answer) → B x → B y → x ≡ y) → ((x y : Answer) → A x → B y → ⊥) → (x y : Answer) → A x ⊎ B x → A y ⊎ B y → x ≡ y
  apart one_a one_b never x y g h =
      elim g [
        | inl a ↦ elim h [ inl c ↦ one_a x y a c | inr d ↦ absurd (never x y a d) ]
        | inr b ↦ elim h [ inl c ↦ absurd (never y x c b) | inr d ↦ one_b x y b d ]
      ]

  one_due : (k : ℕ) (x y : Answer) → Due k x → Due k y → x ≡ y
  one_due k x y a b = grind (arith, wrong_one, wrong_spells)

  one_more : (k : ℕ) (vs : List Word) (x y : Answer) → More k vs x → More k vs y → x ≡ y
  one_more k vs = apart (λ x y a b. a.1 ∙ sym b.1) (λ x y a b. one_due k x y a.1 b.1) (λ x y a b. whole_open vs a.0 b.0)

  one_anchors : (f : Formula) (x y : Answer) → Anchors f x → Anchors f y → x ≡ y
  one_anchors f x y a b = grind (arith, anchored_nowhere)

  one_letters : (f : Formula) (x y : Answer) → Letters f x → Letters f y → x ≡ y
  one_letters f = apart (λ x y a b. grind arith) (λ x y a b. one_anchors f x y a.1 b.1) (λ x y a b. b.0 a.0 a.1.0)

  one_over : (vs : List Word) (x y : Answer) → Over vs x → Over vs y → x ≡ y
  one_over vs = apart (λ x y a b. a.1 ∙ sym b.1) (λ x y a b. one_letters a.0 x y a.2 (subst (λ f. Letters f y) (one_tree b.0 a.0 (sym b.1 ∙ a.1)) b.2)) (λ x y a b. whole_open vs (b.0, sym b.1) a.0)

  one_case : (k : ℕ) (vs : List Word) (x y : Answer) → Case k vs x → Case k vs y → x ≡ y
  one_case k vs = apart (λ x y a b. one_more k vs x y a.1 b.1) (λ x y a b. one_over vs x y a.1 b.1) (λ x y a b. omega (arith, a.0, b.0))

  pub one_answer : (x y : Result Formula PolicyFault) → Told r t x → Told r t y → x ≡ y
  one_answer x y a b =
      let p = at x a in
      let q = at y b in
      one_case p.k p.vs x y p.is (subst (λ l. Case p.k l y) (sym (same_words p.k q.k p.vs q.vs p.halt q.halt)) (subst (λ n. Case n q.vs y) (sym (same_place p.k q.k p.vs q.vs p.halt q.halt)) q.is))

  -- what was given is all that is to be told
  pub only_given : (res : Result Policy PolicyFault) → (x : Result Formula PolicyFault) × Gave res x × Told r t x → (y : Result Formula PolicyFault) → Told r t y → Gave res y
  only_given res g y h = subst (Gave res) (one_answer g.0 y g.2 h) g.1
