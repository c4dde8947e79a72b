-- What finding a thing in a row comes to, and adding it. `same` tells whether two things are the same.
use Rattle.std.specs.Prelude.{◌≡◌, ℕ, ◌+◌, ◌<◌, ◌≤◌, Bool, true, false, List, [], ◌∷◌, ◌++◌, length, take, drop, Some, None, Ok, Err, Option, Result, slice_index_or}
use Rattle.rows.specs.declared.Full.{Full}

-- no thing among the first n of xs is the same as x
abbrev pub Absent : {X : Type 0} → (X → X → Bool) → List X → ℕ → X → Type 0
Absent {X} same xs n x = (k : ℕ) (d : X) → k < n → same (slice_index_or xs k d) x ≡ false

-- the first thing of xs that is the same as x stands at i
abbrev pub FirstAt : {X : Type 0} → (X → X → Bool) → List X → X → ℕ → Type 0
FirstAt {X} same xs x i = (i < length xs) × ((d : X) → same (slice_index_or xs i d) x ≡ true) × Absent same xs i x

-- what finding x in xs answers: the first place, or none
abbrev pub Finds : {X : Type 0} → (X → X → Bool) → List X → X → Option ℕ → Type 0
Finds same xs x None = Absent same xs (length xs) x
Finds same xs x (Some i) = FirstAt same xs x i

-- the row xs became ys: the first `used` things in their order, then x, then the rest as it was
pub record Grew {X : Type 0} (xs ys : List X) (used : ℕ) (x : X) : Type 0 where
  pub room : used < length xs
  pub front : take (used + 1) ys ≡ take used xs ++ (x ∷ [])
  pub rest : drop (used + 1) ys ≡ drop (used + 1) xs

-- what adding x after the first `used` things of xs answers, and the row ys that it leaves: x stands
-- among them already, at i, and nothing is altered; x was put; or x is absent and no place is left
abbrev pub Adds : {X : Type 0} → (X → X → Bool) → List X → List X → ℕ → X → Result (Option ℕ) Full → Type 0
Adds same xs ys used x (Ok (Some i)) = FirstAt same (take used xs) x i × (ys ≡ xs)
Adds same xs ys used x (Ok None) = Absent same (take used xs) (length (take used xs)) x × Grew xs ys used x
Adds same xs ys used x (Err e) = Absent same (take used xs) (length (take used xs)) x × (length xs ≤ used) × (ys ≡ xs)
