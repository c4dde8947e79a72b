use Rattle.std.proofs.Common.{◌≡◌, ℕ, zero, suc, ◌+◌, ◌<◌, ◌≤◌, List, get_or, sym, subst, inl, inr, rules, arith}
use Rattle.std.proofs.lemmas.Bool.{cases_eq}
use Rattle.std.specs.Array.{IsFromFnResultFrom}
use Rattle.std.specs.Fn.{Called}
use denote.Param.Members.{Mut}
use Rattle.policy_words.specs.declared.word.Word.TheVariants as W
use Rattle.policy.specs.Table.{plain}
use Rattle.policy.specs.Linking.{IsEntryAt}
use Rattle.policy.proofs.link.Words.table.Goals as goal

-- where a closure stays as it is and what it gives has P, each item of the array has P
module _ {F B : Type 0} (g : Mut F (ℕ × Unit {0}) B) (P : ℕ → B → Type 0) (f : F) (ys : List B) (e : B) (gives : (i : ℕ) (y : B) (q : F) → Called g f (i, tt) y q → (q ≡ f) × P i y) where
  each : (n i : ℕ) → IsFromFnResultFrom g f ys i n → (k : ℕ) → i ≤ k → k < i + n → P k (get_or ys k e)
  each zero i made k lo hi = absurd (omega arith)
  each (suc n) i made k lo hi =
      let q = gives i made.1 made.0 made.3 in
      elim (cases_eq k i) [
        | inl here ↦ subst (λ j. P j (get_or ys j e)) (sym here) (subst (P i) (sym (made.2.1 e)) q.1)
        | inr ne ↦ each n (i + 1) (subst (λ p. IsFromFnResultFrom g p ys (i + 1) n) q.0 made.4) k (omega arith) (omega arith)
      ]

pub returns-clause-entries : goal.returns-clause-entries
returns-clause-entries c = λ k lt.
    each _ (IsEntryAt c.args.self.now) _ c.from_fn.result (plain (W.Name 0)) (λ i y q call. search rules) 64 0 c.from_fn.ensures.items.each k (omega arith) (omega arith)
