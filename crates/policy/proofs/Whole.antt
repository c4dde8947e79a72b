-- Whether a table is a policy's can be decided, so that its formula can be had from the fact that there is one.
use Rattle.std.proofs.Common.{◌≡◌, ℕ, ◌≤◌, List, [], ◌∷◌, Some, None, Option, sym, refl, ap, ◌∙◌, subst, inl, inr, arith}
use mathlib.Core.Logic.{∥∥₁_map}
use Rattle.std.proofs.lemmas.Option.{none-some}
use Rattle.std.specs.List.{list_all}
use Rattle.std.proofs.lemmas.Bool.{cases_lt, cases_eq, cases_Bool, true≢false}
use Rattle.policy_words.specs.Tree.{Formula, words, EachAllowed, allowed as is_allowed}
use Rattle.policy_words.specs.declared.word.Word.{Word}
use Rattle.policy_words.proofs.Rows.{heads, no_cons}
use Rattle.policy_words.proofs.Unique.{one_tree}
use Rattle.policy_words.proofs.Decide.{tree, held}
use Rattle.policy_words.proofs.Allows.{each_allows, allows_each}
use Rattle.policy.specs.Letters.{given}
use Rattle.policy.specs.Table.{size, entries, words_in}
use Rattle.policy.specs.Free.{Loose, Nowhere}
use Rattle.policy.specs.Anchor.{Stray}
use Rattle.policy.specs.Proper.{Proper, Written}
use Rattle.policy.specs.declared.entry.Entry.{Entry}
use Rattle.policy.proofs.Places.{Tells, tells_loose, tells_stray, anchored_nowhere, nowhere_anchored}
use Rattle.policy.proofs.Tables.{entries-words}

same_second : (o p : Option ℕ) → Dec (o ≡ p)
same_second None None = yes refl
same_second None (Some n) = no (none-some n)
same_second (Some m) None = no (λ e. none-some m (sym e))
same_second (Some m) (Some n) = elim (cases_eq m n) [ inl e ↦ yes (ap Some e) | inr ne ↦ no (λ e. ne cc) ]

dec_entries : (xs ys : List Entry) → words_in xs ≡ words_in ys → Dec (xs ≡ ys)
dec_entries [] [] e = yes refl
dec_entries [] (y ∷ ys) e = no (λ p. no_cons y ys (sym p))
dec_entries (x ∷ xs) [] e = no (no_cons x xs)
dec_entries (x ∷ xs) (y ∷ ys) e =
    let h = heads _ _ _ _ e in
    elim (same_second x.second y.second) [
      | yes s ↦ elim (dec_entries xs ys h.1) [
        | yes t ↦ yes (λ i. record { word = h.0 i; second = s i } ∷ t i)
        | no n ↦ no (λ p. n (heads _ _ _ _ p).1)
      ]
      | no n ↦ no (λ p. n (ap (λ z. z.second) (heads _ _ _ _ p).0))
    ]

dec_nowhere : (o : Option ℕ) (P : ℕ → Type 0) → Tells o P → Dec (Nowhere P)
dec_nowhere None P t = yes t
dec_nowhere (Some k) P t = no (λ h. h k t.0)

dec_few : (n : ℕ) → Dec (n ≤ 64)
dec_few n = elim (cases_lt 64 n) [ inl lt ↦ no (λ h. omega arith) | inr ge ↦ yes ge ]

dec_allowed : (ws : List Word) → Dec (EachAllowed ws)
dec_allowed ws = elim (cases_Bool (list_all is_allowed ws)) [ inl t ↦ yes (each_allows ws t) | inr f ↦ no (λ h. true≢false (sym (allows_each ws h) ∙ f)) ]

dec_proper : (f : Formula) → Dec (Proper f)
dec_proper f = go (dec_few (size f)) (dec_allowed (words f)) (dec_nowhere _ _ (tells_loose f given)) (dec_nowhere _ _ (tells_stray f))
  where
    go : Dec (size f ≤ 64) → Dec (EachAllowed (words f)) → Dec (Nowhere (Loose given f)) → Dec (Nowhere (Stray f)) → Dec (Proper f)
    go (no n) b c d = no (λ p. n p.few)
    go (yes a) (no n) c d = no (λ p. n p.allowed)
    go (yes a) (yes b) (no n) d = no (λ p. n p.closed)
    go (yes a) (yes b) (yes c) (no n) = no (λ p. n (anchored_nowhere f p.anchored))
    go (yes a) (yes b) (yes c) (yes d) = yes record { few = a; allowed = b; closed = c; anchored = nowhere_anchored f d }

-- the table is this formula's
abbrev Of : List Entry → Formula → Type 0
Of es f = (es ≡ entries 0 f) × Proper f

dec_of : (es : List Entry) (f : Formula) → words f ≡ words_in es → Dec (Of es f)
dec_of es f e = go (dec_entries es (entries 0 f) (sym e ∙ sym (entries-words f 0))) (dec_proper f)
  where
    go : Dec (es ≡ entries 0 f) → Dec (Proper f) → Dec (Of es f)
    go (yes a) (yes b) = yes (a, b)
    go (yes a) (no n) = no (λ h. n h.1)
    go (no n) b = no (λ h. n h.0)

-- words of a table that is a formula's
pub words_of : (es : List Entry) (f : Formula) → es ≡ entries 0 f → words f ≡ words_in es
words_of es f e = sym (entries-words f 0) ∙ ap words_in (sym e)

pub same_formula : (es : List Entry) (f g : Formula) → es ≡ entries 0 f → es ≡ entries 0 g → f ≡ g
same_formula es f g e d = one_tree f g (words_of es f e ∙ sym (words_of es g d))

pub written : (es : List Entry) → ∥ Written es ∥₁ → Written es
written es t =
    let w = tree (words_in es) (∥∥₁_map t (λ x. (x.0, words_of es x.0 x.1))) in
    let h = held (dec_of es w.0 w.1) (∥∥₁_map t (λ x. subst (Of es) (one_tree x.0 w.0 (words_of es x.0 x.1 ∙ sym w.1)) (x.1, x.2))) in
    (w.0, h.0, h.1)
