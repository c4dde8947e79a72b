-- What a book means after a tie or a mark fact moved, for any make.
use Rattle.std.proofs.Common.{◌≡◌, ℕ, ◌<◌, ◌≤◌, Bool, true, false, cond, is_ok, Ok, Err, sym, ap, ◌∙◌, arith}
use mathlib.Core.Path.{fun_ext}
use Rattle.std.proofs.lemmas.Bool.Decides.{nat_tests}
use Rattle.book.specs.declared.tie.Tie.{Tie}
use Rattle.book.specs.declared.refusal.EnterRefusal.{EnterRefusal}
use Rattle.book.specs.declared.refusal.EnterRefusal.TheVariants.{Full}
use Rattle.book.specs.Meaning.{Meaning, ties_of, at3, with_ties}
use Rattle.book.specs.Calls.{entering, entered, struck, tie_within, has}

pub fun_ext2 : {p q : ℕ → ℕ → Bool} → ((x y : ℕ) → p x y ≡ q x y) → p ≡ q
fun_ext2 h = fun_ext (λ x. fun_ext (λ y. h x y))

pub fun_ext3 : {p q : ℕ → ℕ → ℕ → Bool} → ((x y z : ℕ) → p x y z ≡ q x y z) → p ≡ q
fun_ext3 h = fun_ext (λ x. fun_ext (λ y. fun_ext (λ z. h x y z)))

pub entered_by : (m : Meaning) (t : Tie) (p : ℕ → ℕ → ℕ → Bool) → entering m t ≡ Ok tt
    → ((x y z : ℕ) → p x y z ≡ at3 m.tied t.label t.from t.to true x y z) → with_ties m p ≡ entered m t
entered_by m t p ok h =
    ap (with_ties m) (fun_ext3 h) ∙ sym (ap (λ r. cond (is_ok r) (with_ties m (at3 m.tied t.label t.from t.to true)) m) ok)

-- a tie that is there already
pub entered-there : (m : Meaning) (t : Tie) → entering m t ≡ Ok tt → has m t ≡ true → m ≡ entered m t
entered-there m t ok there = entered_by m t m.tied ok (λ x y z. grind (arith, nat_tests, there))

pub struck_by : (m : Meaning) (t : Tie) (p : ℕ → ℕ → ℕ → Bool) → tie_within m.counts t ≡ true
    → ((x y z : ℕ) → p x y z ≡ at3 m.tied t.label t.from t.to false x y z) → with_ties m p ≡ struck m t
struck_by m t p ok h =
    ap (with_ties m) (fun_ext3 h) ∙ sym (ap (λ r. cond r (with_ties m (at3 m.tied t.label t.from t.to false)) m) ok)

pub struck-absent : (m : Meaning) (t : Tie) → tie_within m.counts t ≡ true → has m t ≡ false → m ≡ struck m t
struck-absent m t ok absent = struck_by m t m.tied ok (λ x y z. grind (arith, nat_tests, absent))

-- what entering answers
pub entering-there : (m : Meaning) (t : Tie) → tie_within m.counts t ≡ true → has m t ≡ true → entering m t ≡ Ok tt
entering-there m t within there = grind (arith, nat_tests, within, there)

pub entering_room : (m : Meaning) (t : Tie) → tie_within m.counts t ≡ true → ties_of m < m.capacity → entering m t ≡ Ok tt
entering_room m t within room = grind (arith, nat_tests, within, room)

pub entering_full : (m : Meaning) (t : Tie) → tie_within m.counts t ≡ true → has m t ≡ false → m.capacity ≤ ties_of m → entering m t ≡ Err Full
entering_full m t within absent full = grind (arith, nat_tests, within, absent, full)

pub entered_refused : (m : Meaning) (t : Tie) (e : EnterRefusal) → entering m t ≡ Err e → m ≡ entered m t
entered_refused m t e h = sym (ap (λ r. cond (is_ok r) (with_ties m (at3 m.tied t.label t.from t.to true)) m) h)
