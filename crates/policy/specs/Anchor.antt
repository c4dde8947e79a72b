-- Anchored formulas: built by `!`, `&` and `:` from `@?q f` and `@?r f`.
use Rattle.std.specs.Prelude.{◌≡◌, ℕ, ◌+◌, false, cond, ◌⊎◌, Some, None, Option}
use Rattle.policy_words.specs.Tree.{Formula}
use Rattle.policy_words.specs.Tree.Formula.{is, same, has, neg, both, either, at_letter, at_name, bind, some}
use Rattle.policy_words.specs.declared.word.Letter.TheVariants.{Requester, Resource}
use Rattle.policy.specs.Letters.{given}
use Rattle.policy.specs.Table.{size}
use Rattle.policy.specs.Free.{Later, Nowhere, first, later}

-- built by `!`, `&` and `:` from `@?q f` and `@?r f`
pub data Anchored : Formula → Type 0 where
  at_requester : (f : Formula) → Anchored (at_letter Requester f)
  at_resource : (f : Formula) → Anchored (at_letter Resource f)
  not : (f : Formula) → Anchored f → Anchored (neg f)
  and : (f g : Formula) → Anchored f → Anchored g → Anchored (both f g)
  or : (f g : Formula) → Anchored f → Anchored g → Anchored (either f g)

-- on the way down through `!`, `&` and `:`, word k is none of these and neither `@?q` nor `@?r`
abbrev pub Stray : Formula → ℕ → Type 0
Stray (is n) k = k ≡ 0
Stray (same v) k = k ≡ 0
Stray (has m) k = k ≡ 0
Stray (neg f) k = Later 1 (Stray f) k
Stray (both f g) k = Later 1 (Stray f) k ⊎ Later (1 + size f) (Stray g) k
Stray (either f g) k = Later 1 (Stray f) k ⊎ Later (1 + size f) (Stray g) k
Stray (at_letter v f) k = (k ≡ 0) × (given v ≡ false)
Stray (at_name n f) k = k ≡ 0
Stray (bind v f) k = k ≡ 0
Stray (some p f) k = k ≡ 0

-- the same as a function
abbrev pub first_stray : Formula → Option ℕ
first_stray (is n) = Some 0
first_stray (same v) = Some 0
first_stray (has m) = Some 0
first_stray (neg f) = later 1 (first_stray f)
first_stray (both f g) = first (later 1 (first_stray f)) (later (1 + size f) (first_stray g))
first_stray (either f g) = first (later 1 (first_stray f)) (later (1 + size f) (first_stray g))
first_stray (at_letter v f) = cond (given v) None (Some 0)
first_stray (at_name n f) = Some 0
first_stray (bind v f) = Some 0
first_stray (some p f) = Some 0

-- a formula is anchored exactly where no word is stray
abbrev pub AnchoredIsAstrayNowhere : Type 0
AnchoredIsAstrayNowhere = (f : Formula) → (Anchored f → Nowhere (Stray f)) × (Nowhere (Stray f) → Anchored f)
