-- Whether words are those of a policy can be decided, so that a policy's tree can be had from the fact that there is one. Assumes nothing.
use Rattle.std.proofs.Common.{◌≡◌, ℕ, zero, suc, ◌+◌, ◌-◌, Bool, true, false, List, [], ◌∷◌, refl, inl, inr, arith}
use mathlib.Core.HLevel.{⊥_prop}
use mathlib.Core.Logic.{∥∥₁_elim}
use Rattle.policy_words.specs.Tree.{is_path, Whole}
use Rattle.policy_words.specs.Due.{paths_of, formulas_of, Row}
use Rattle.policy_words.specs.declared.word.Word.{Word}
use Rattle.policy_words.proofs.Rows.{path_turns, formula_turns, path_stuck, formula_stuck, owes_start, empty_row}

along : {A B : Type 0} → (A → B) × (B → A) → Dec B → Dec A
along f (yes b) = yes (f.1 b)
along f (no n) = no (λ a. n (f.0 a))

step : (w : Word) (ws : List Word) (i j : ℕ) → ((m n : ℕ) → Dec (Row m n ws)) → (b : Bool) → is_path w ≡ b → Dec (Row i j (w ∷ ws))
step w ws zero j rest true e = no (path_stuck w 0 j e refl ws)
step w ws (suc i) j rest true e = along (path_turns w (suc i) j (suc i - 1 + paths_of w) e (omega arith) refl ws) (rest _ _)
step w ws (suc i) j rest false e = no (formula_stuck w (suc i) j e (inl (omega arith)) ws)
step w ws zero zero rest false e = no (formula_stuck w 0 0 e (inr refl) ws)
step w ws zero (suc j) rest false e = along (formula_turns w 0 (suc j) (paths_of w) (suc j - 1 + formulas_of w) e refl (omega arith) refl refl ws) (rest _ _)

decide : (ws : List Word) (i j : ℕ) → Dec (Row i j ws)
decide [] zero zero = yes ([], [], refl, refl, refl)
decide [] zero (suc j) = no (λ r. let z = empty_row r.0 r.1 r.4 in omega (arith, z, r.3))
decide [] (suc i) j = no (λ r. let z = empty_row r.0 r.1 r.4 in omega (arith, z, r.2))
decide (w ∷ ws) i j = step w ws i j (λ m n. decide ws m n) (is_path w) refl

pub held : {A : Type 0} → Dec A → ∥ A ∥₁ → A
held (yes a) t = a
held (no n) t = absurd (∥∥₁_elim t ⊥_prop n)

pub tree : (ws : List Word) → ∥ Whole ws ∥₁ → Whole ws
tree ws = held (along (owes_start ws) (decide ws 0 1))
