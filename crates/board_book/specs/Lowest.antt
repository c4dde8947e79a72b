-- The lowest number that passes.
use Rattle.std.specs.Prelude.{◌≡◌, ℕ, ◌<◌, ◌≤◌, Bool, true, false, Some, None, Option}

-- the lowest number not below `at` that passes, or none
abbrev pub Lowest : (ℕ → Bool) → ℕ → Option ℕ → Type 0
Lowest p at None = (k : ℕ) → at ≤ k → p k ≡ false
Lowest p at (Some y) = (at ≤ y) × (p y ≡ true) × ((k : ℕ) → at ≤ k → k < y → p k ≡ false)
