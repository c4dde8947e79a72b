-- Decimal numbers as they are written.
use Rattle.std.specs.Prelude.{ℕ, ◌+◌, ◌-◌, ◌*◌, min, Bool, cond, List, [], ◌∷◌, Some, None, Option}
use Rattle.std.specs.Char.{is_ascii_digit}
use Rattle.std.specs.List.{list_all}

-- every byte is a digit, 0 to 9
abbrev pub digits : List ℕ → Bool
digits bs = list_all is_ascii_digit bs

-- the number that digits write behind a number that is written already
abbrev pub value : ℕ → List ℕ → ℕ
value n [] = n
value n (b ∷ bs) = value (10 * n + (b - 48)) bs

-- the number that a word writes, but no more than `most`; none unless it is one or more digits
abbrev pub written : List ℕ → ℕ → Option ℕ
written [] most = None
written (b ∷ bs) most = cond (digits (b ∷ bs)) (Some (min (value 0 (b ∷ bs)) most)) None
