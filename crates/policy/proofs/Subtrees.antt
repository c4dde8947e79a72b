-- A tree by its first word and the trees under it.
use Rattle.std.proofs.Common.{◌≡◌, ℕ, suc, ◌+◌, ◌<◌, ◌≤◌, List, [], ◌∷◌, ◌++◌, length, get_or, drop, sym, refl, ap, ◌∙◌, inl, inr, append_assoc, append-nil, arith, length-append, length-drop}
use Rattle.std.proofs.lemmas.List.{drop_more, drop-drop, drop_at}
use Rattle.policy_words.specs.Due.{paths_of, formulas_of}
use Rattle.policy_words.specs.Tree.Formula.{is, same, has, neg, both, either, at_letter, at_name, bind, some}
use Rattle.policy_words.specs.Tree.Path.{forward, backward, seq, plus, stay}
use Rattle.policy_words.specs.declared.word.Word.{Word}
use Rattle.policy_words.specs.Tree.{root as first_word}
use Rattle.policy_words.proofs.Rows.{heads, root_p}
use Rattle.policy.specs.Linking.{Tree, write, enter, head}
use Rattle.policy.specs.declared.entry.Entry.{Entry}

abbrev pub root : Tree → Word
root (inl f) = first_word f
root (inr p) = root_p p

abbrev pub kids : Tree → List Tree
kids (inl (is n)) = []
kids (inl (same v)) = []
kids (inl (has m)) = []
kids (inl (neg f)) = inl f ∷ []
kids (inl (both f g)) = inl f ∷ inl g ∷ []
kids (inl (either f g)) = inl f ∷ inl g ∷ []
kids (inl (at_letter v f)) = inl f ∷ []
kids (inl (at_name n f)) = inl f ∷ []
kids (inl (bind v f)) = inl f ∷ []
kids (inl (some p f)) = inr p ∷ inl f ∷ []
kids (inr (forward l)) = []
kids (inr (backward l)) = []
kids (inr (seq p t)) = inr p ∷ inr t ∷ []
kids (inr (plus p)) = inr p ∷ []
kids (inr stay) = []

-- the i-th operand
abbrev pub kid_at : List Tree → ℕ → Tree
kid_at ks i = get_or ks i (inl (is 0))

-- the words, and the entries, of trees in a row
abbrev pub write_all : List Tree → List Word
write_all [] = []
write_all (t ∷ ts) = write t ++ write_all ts

abbrev pub enter_all : ℕ → List Tree → List Entry
enter_all k [] = []
enter_all k (t ∷ ts) = enter k t ++ enter_all (k + length (write t)) ts

-- a tree's words and entries by its first word and its operands
pub record Node (t : Tree) : Type 0 where
  pub writes : write t ≡ root t ∷ write_all (kids t)
  pub count : length (kids t) ≡ paths_of (root t) + formulas_of (root t)
  pub enters : (k : ℕ) → enter k t ≡ head k t ∷ enter_all (k + 1) (kids t)
  pub few : length (kids t) ≤ 2

pub node : (t : Tree) → Node t
node t = record { writes = grind (arith, append-nil); count = grind arith; enters = λ k. grind (arith, append-nil); few = grind arith }

-- the table ws has the tree t at the place i, and then the words rest
abbrev pub Has : List Word → ℕ → Tree → List Word → Type 0
Has ws i t rest = drop i ws ≡ write t ++ rest

-- how long a tree is, by its operands
pub long : (t : Tree) (ks : List Tree) → kids t ≡ ks → length (write t) ≡ suc (length (write_all ks))
long t ks e = ap length (node t).writes ∙ ap (λ l. suc (length (write_all l))) e

pub inside : (ws : List Word) (i : ℕ) (t : Tree) (rest : List Word) → Has ws i t rest → i < length ws
inside ws i t rest h = omega (arith, length-drop i ws, ap length h, length-append (write t) rest, long t (kids t) refl)

-- of a tree in the table: the word at its place is its first and tells the number of its operands, which begin at the next
pub record Rooted (ws : List Word) (i : ℕ) (w : Word) (t : Tree) (rest : List Word) : Type 0 where
  pub first : w ≡ root t
  pub then : drop (i + 1) ws ≡ write_all (kids t) ++ rest
  pub count : length (kids t) ≡ paths_of w + formulas_of w

pub rooted : (ws : List Word) (i : ℕ) (w d : Word) (t : Tree) (rest : List Word) → w ≡ get_or ws i d → Has ws i t rest → Rooted ws i w t rest
rooted ws i w d t rest e h =
    let q = heads _ _ _ _ (sym (drop_more ws i d (inside ws i t rest h)) ∙ h ∙ ap (λ l. l ++ rest) (node t).writes) in
    let first : w ≡ root t = e ∙ q.0 in
    record { first = first; then = q.1; count = (node t).count ∙ sym (ap (λ x. paths_of x + formulas_of x) first) }

-- past the first of the trees at i
pub past : (ws : List Word) (i : ℕ) (t : Tree) (more : List Word) → Has ws i t more → drop (i + length (write t)) ws ≡ more
past ws i t more h = sym (drop-drop (length (write t)) i ws) ∙ ap (drop (length (write t))) h ∙ drop_at (write t) more (length (write t)) refl

-- the i-th operand and those behind it, where their words begin at `next`
pub record Operand (ws : List Word) (next i : ℕ) (ks : List Tree) (rest : List Word) : Type 0 where
  pub at : Has ws next (kid_at ks i) (write_all (drop (i + 1) ks) ++ rest)
  pub size : length (write_all (drop i ks)) ≡ length (write (kid_at ks i)) + length (write_all (drop (i + 1) ks))

pub operand : (ws : List Word) (next i : ℕ) (ks : List Tree) (rest : List Word) → i < length ks → drop next ws ≡ write_all (drop i ks) ++ rest → Operand ws next i ks rest
operand ws next i ks rest lt h =
    let e : drop i ks ≡ kid_at ks i ∷ drop (i + 1) ks = drop_more ks i (inl (is 0)) lt in
    record { at = h ∙ ap (λ l. write_all l ++ rest) e ∙ append_assoc (write (kid_at ks i)) (write_all (drop (i + 1) ks)) rest; size = ap (λ l. length (write_all l)) e ∙ length-append (write (kid_at ks i)) (write_all (drop (i + 1) ks)) }
