-- The formulas that stand in a table, by their first words.
use Rattle.std.specs.Prelude.{◌≡◌, ℕ, ◌+◌, ◌-◌, ◌<◌, length, List, [], ◌∷◌}
use Rattle.policy_words.specs.Tree.{Formula}
use Rattle.policy_words.specs.Tree.Formula.{is, same, has, neg, both, either, at_letter, at_name, bind, some}
use Rattle.policy.specs.Table.{size, extent, Stands}
use Rattle.policy.specs.declared.node.Node.{Node}
use Rattle.policy.specs.declared.node.Operands.{Operands}
use Rattle.policy.specs.declared.node.Operands.TheVariants.{Leaf, One, Two}

-- the operands of a formula that are formulas, each with the number of words between its first word and the formula's
abbrev pub operands : Formula → List (ℕ × Formula)
operands (is n) = []
operands (same v) = []
operands (has m) = []
operands (neg f) = (0, f) ∷ []
operands (both f g) = (0, f) ∷ (size f, g) ∷ []
operands (either f g) = (0, f) ∷ (size f, g) ∷ []
operands (at_letter v f) = (0, f) ∷ []
operands (at_name n f) = (0, f) ∷ []
operands (bind v f) = (0, f) ∷ []
operands (some p f) = (extent p, f) ∷ []

-- the word n is the first of the formula f
abbrev pub Leads : Node → Formula → Type 0
Leads n f = Stands n.table.now n.at f

-- the word x is the first of the formula p.1 in the table of n, with p.0 words between n and x
pub record Follows (n : Node) (p : ℕ × Formula) (x : Node) : Type 0 where
  pub table : x.table.now ≡ n.table.now
  pub at : x.at ≡ n.at + 1 + p.0
  pub leads : Leads x p.1

-- the operands of the word n are these formulas, by their first words
abbrev pub AreOperands : Node → List (ℕ × Formula) → Operands → Type 0
AreOperands n [] Leaf = Unit {0}
AreOperands n [] (One x) = ⊥
AreOperands n [] (Two x y) = ⊥
AreOperands n (p ∷ []) Leaf = ⊥
AreOperands n (p ∷ []) (One x) = Follows n p x
AreOperands n (p ∷ []) (Two x y) = ⊥
AreOperands n (p ∷ q ∷ ps) Leaf = ⊥
AreOperands n (p ∷ q ∷ ps) (One x) = ⊥
AreOperands n (p ∷ q ∷ ps) (Two x y) = (ps ≡ []) × Follows n p x × Follows n q y

-- how many words of the table are left from the word n on
abbrev pub left : Node → ℕ
left n = length n.table.now - n.at

-- from each of the operands on, fewer words are left than from n on
abbrev pub HaveFewer : Node → Operands → Type 0
HaveFewer n Leaf = Unit {0}
HaveFewer n (One x) = left x < left n
HaveFewer n (Two x y) = (left x < left n) × (left y < left n)
