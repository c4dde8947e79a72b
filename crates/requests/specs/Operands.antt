-- The operands of a command.
use Rattle.std.specs.Prelude.{ℕ, cond, List, [], ◌∷◌, None, Option, ◌==◌}
use Rattle.roll.specs.declared.list.List.{List as Which}
use Rattle.roll.specs.declared.roll.Roll.{Roll}
use Rattle.roll.specs.Rolls.{number_of}
use Rattle.std.specs.Option.{option_or}
use Rattle.requests.specs.Decimal.{written}

-- the number written behind `#`, byte 35, up to 255
abbrev pub behind_hash : List ℕ → Option ℕ
behind_hash [] = None
behind_hash (b ∷ bs) = cond (b == 35) (written bs 255) None

-- the number that an operand stands for: the number behind `#`, or the word's number in its list
abbrev pub operand : Roll → Which → List ℕ → Option ℕ
operand r l w = option_or (behind_hash w) (number_of r l w)
