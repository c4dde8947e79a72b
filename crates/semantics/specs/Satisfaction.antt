-- Satisfaction: which names a path joins, and at which names of a book a formula holds.
use Rattle.std.specs.Prelude.{◌≡◌, ℕ, ◌<◌, true, ◌⊎◌}
use Rattle.book.specs.Meaning.{Meaning}
use Rattle.policy_words.specs.Tree.{Formula, Path}
use Rattle.policy_words.specs.Tree.Formula.{is, same, has, neg, both, either, at_letter, at_name, bind, some}
use Rattle.policy_words.specs.Tree.Path.{forward, backward, seq, plus, stay}
use Rattle.policy_words.specs.declared.word.Letter.{Letter}
use Rattle.policy_words.specs.declared.word.Letter.TheVariants as L

-- a valuation: the name that each letter stands for
pub record Valuation : Type 0 where
  pub requester : ℕ
  pub resource : ℕ
  pub a : ℕ
  pub b : ℕ

-- the name that the letter v stands for
abbrev pub value : Valuation → Letter → ℕ
value g L.Requester = g.requester
value g L.Resource = g.resource
value g L.A = g.a
value g L.B = g.b

-- the same valuation, but the letter v stands for the name s
abbrev pub assign : Letter → ℕ → Valuation → Valuation
assign L.Requester s g = record { requester = s; resource = g.resource; a = g.a; b = g.b }
assign L.Resource s g = record { requester = g.requester; resource = s; a = g.a; b = g.b }
assign L.A s g = record { requester = g.requester; resource = g.resource; a = s; b = g.b }
assign L.B s g = record { requester = g.requester; resource = g.resource; a = g.a; b = s }

-- P at some name of the book
abbrev pub Somewhere : Meaning → (ℕ → Type 0) → Type 0
Somewhere m P = (y : ℕ) × (y < m.counts.names) × P y

-- the transitive closure of R: R once or more
pub data Closure (R : ℕ → ℕ → Type 0) : ℕ → ℕ → Type 0 where
  once : {x y : ℕ} → R x y → Closure R x y
  more : {x z y : ℕ} → R x z → Closure R z y → Closure R x y

-- the path joins the name x to the name y
abbrev pub Joins : Meaning → Path → ℕ → ℕ → Type 0
Joins m (forward l) x y = m.tied l x y ≡ true
Joins m (backward l) x y = m.tied l y x ≡ true
Joins m (seq p t) x y = Somewhere m (λ z. Joins m p x z × Joins m t z y)
Joins m (plus p) x y = Closure (Joins m p) x y
Joins m stay x y = x ≡ y

-- the formula holds at the name s, under the valuation g
abbrev pub Holds : Meaning → Formula → Valuation → ℕ → Type 0
Holds m (is n) g s = s ≡ n
Holds m (same v) g s = s ≡ value g v
Holds m (has k) g s = m.marked k s ≡ true
Holds m (neg f) g s = Holds m f g s → ⊥
Holds m (both f h) g s = Holds m f g s × Holds m h g s
Holds m (either f h) g s = Holds m f g s ⊎ Holds m h g s
Holds m (at_letter v f) g s = Somewhere m (λ y. (y ≡ value g v) × Holds m f g y)
Holds m (at_name n f) g s = Somewhere m (λ y. (y ≡ n) × Holds m f g y)
Holds m (bind v f) g s = Holds m f (assign v s g) s
Holds m (some p f) g s = Somewhere m (λ y. Joins m p s y × Holds m f g y)
