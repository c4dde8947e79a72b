-- A formula in a table, by its first word and the formulas under it.
use Rattle.std.proofs.Common.{◌≡◌, ℕ, ◌+◌, ◌<◌, Bool, true, false, List, [], ◌∷◌, length, get_or, Some, None, Option, sym, refl, ap, ◌∙◌, subst, inl, arith}
use Rattle.std.proofs.Math.Bridge.{le_prop}
use Rattle.std.proofs.lemmas.Option.{none-some, same_Some}
use mathlib.Core.Logic.{∥∥₁_elim, ∥∥₁_map}
use Rattle.policy_words.specs.Due.{formulas_of}
use Rattle.policy_words.specs.Tree.{Formula, root}
use Rattle.policy_words.specs.Tree.Formula.{is, same, has, neg, both, either, at_letter, at_name, bind, some}
use Rattle.policy_words.specs.declared.word.Letter.{Letter}
use Rattle.policy_words.specs.declared.word.Letter.TheVariants as L
use Rattle.policy_words.specs.declared.word.Word.{Word}
use Rattle.policy_words.specs.declared.word.Word.TheVariants as W
use Rattle.policy.specs.Letters.{has as holds}
use Rattle.policy.specs.Linking.{head}
use Rattle.policy.specs.Table.{plain, Stands, Reads}
use Rattle.policy.specs.Free.{first, later, first_loose}
use Rattle.policy.specs.Nodes.{operands}
use Rattle.policy.specs.Steps.{settled, set_by}
use Rattle.policy.specs.declared.entry.Entry.{Entry}
use Rattle.policy.specs.declared.node.Node.{Node}

-- a place moved on twice
pub later-later : (a b : ℕ) (o : Option ℕ) → later a (later b o) ≡ later (a + b) o
later-later a b None = refl
later-later a b (Some k) = ap Some (omega arith)

-- the first of two places, moved on
pub later_first : (a : ℕ) (o p : Option ℕ) → later a (first o p) ≡ first (later a o) (later a p)
later_first a None p = refl
later_first a (Some k) p = refl

-- the set with no letter has none
pub none_has : (v : Letter) → holds v (record { requester = false; resource = false; a = false; b = false }) ≡ false
none_has L.Requester = refl
none_has L.Resource = refl
none_has L.A = refl
none_has L.B = refl

-- the entry of a formula's first word
reads : (es : List Entry) (k : ℕ) (f : Formula) → Stands es k f → Reads es k (head k (inl f))
reads es k (is n) r = r
reads es k (same v) r = r
reads es k (has m) r = r
reads es k (neg f) r = r.0
reads es k (both f g) r = r.0
reads es k (either f g) r = r.0
reads es k (at_letter v f) r = r.0
reads es k (at_name n f) r = r.0
reads es k (bind v f) r = r.0
reads es k (some p f) r = r.0

-- the entry at a place
abbrev pub here : Node → Entry
here n = get_or n.table.now n.at (plain (W.Name 0))

pub within : (n : Node) → n.at < length n.table.now
within n = ∥∥₁_elim n.formula le_prop (λ x. (reads n.table.now n.at x.0 x.1).0)

-- what a walk over the operands finds first
abbrev pub first_in : (Formula → Option ℕ) → List (ℕ × Formula) → Option ℕ
first_in g [] = None
first_in g (p ∷ ps) = first (later (1 + p.0) (g p.1)) (first_in g ps)

-- the first loose word of a formula, where its first word names only letters that are set
loose_under : (s : Letter → Bool) (f : Formula) → settled s (root f) ≡ true → first_loose s f ≡ first_in (first_loose (set_by (root f) s)) (operands f)
loose_under s f h = grind arith

-- by the letters t that are set in the operands
pub loose_in : (s t : Letter → Bool) (w : Word) (f : Formula) → w ≡ root f → settled s w ≡ true → ((v : Letter) → t v ≡ set_by w s v) → first_loose s f ≡ first_in (first_loose t) (operands f)
loose_in s t w f e h d = loose_under s f (sym (ap (settled s) e) ∙ h) ∙ ap (λ x. first_in (first_loose x) (operands f)) (ap (λ x. set_by x s) (sym e) ∙ (λ i v. sym (d v) i))

-- the formula that the place of a second operand leads to
second_of : (es : List Entry) (k j : ℕ) (f : Formula) → Stands es k f → (head k (inl f)).second ≡ Some j → (k < j) × (g : Formula) × Stands es j g
second_of es k j (is n) s e = absurd (none-some _ e)
second_of es k j (same v) s e = absurd (none-some _ e)
second_of es k j (has m) s e = absurd (none-some _ e)
second_of es k j (neg f) s e = absurd (none-some _ e)
second_of es k j (both f g) s e = let n = same_Some _ _ e in (omega (arith, n), g, subst (λ i. Stands es i g) n s.2)
second_of es k j (either f g) s e = let n = same_Some _ _ e in (omega (arith, n), g, subst (λ i. Stands es i g) n s.2)
second_of es k j (at_letter v f) s e = absurd (none-some _ e)
second_of es k j (at_name n f) s e = absurd (none-some _ e)
second_of es k j (bind v f) s e = absurd (none-some _ e)
second_of es k j (some p f) s e = let n = same_Some _ _ e in (omega (arith, n), f, subst (λ i. Stands es i f) n s.2)

-- the formula at the next place, of a word with two formulas or with one and no second operand
next_of : (es : List Entry) (k : ℕ) (f : Formula) → Stands es k f → 0 < formulas_of (head k (inl f)).word → (formulas_of (head k (inl f)).word ≡ 1 → (head k (inl f)).second ≡ None) → (g : Formula) × Stands es (k + 1) g
next_of es k (is n) s h e = absurd (omega (arith, h))
next_of es k (same v) s h e = absurd (omega (arith, h))
next_of es k (has m) s h e = absurd (omega (arith, h))
next_of es k (neg f) s h e = (f, s.1)
next_of es k (both f g) s h e = (f, s.1)
next_of es k (either f g) s h e = (f, s.1)
next_of es k (at_letter v f) s h e = (f, s.1)
next_of es k (at_name n f) s h e = (f, s.1)
next_of es k (bind v f) s h e = (f, s.1)
next_of es k (some p f) s h e = absurd (none-some _ (sym (e refl)))

pub second_later : (n : Node) (j : ℕ) → (here n).second ≡ Some j → n.at < j
second_later n j e = ∥∥₁_elim n.formula le_prop (λ x. (second_of n.table.now n.at j x.0 x.1 (rw (reads n.table.now n.at x.0 x.1).1 at e)).0)

pub second_stands : (n : Node) (j : ℕ) → (here n).second ≡ Some j → ∥ ((g : Formula) × Stands n.table.now j g) ∥₁
second_stands n j e = ∥∥₁_map n.formula (λ x. let s = second_of n.table.now n.at j x.0 x.1 (rw (reads n.table.now n.at x.0 x.1).1 at e) in (s.1, s.2))

pub next_stands : (n : Node) → 0 < formulas_of (here n).word → (formulas_of (here n).word ≡ 1 → (here n).second ≡ None) → ∥ ((g : Formula) × Stands n.table.now (n.at + 1) g) ∥₁
next_stands n h e = ∥∥₁_map n.formula (λ x. let r = (reads n.table.now n.at x.0 x.1).1 in next_of n.table.now n.at x.0 x.1 (rw r at h) (rw r at e))
