-- Sets of letters.
use Rattle.std.specs.Prelude.{ℕ, Bool, true, false, ◌||◌, ◌==◌}
use Rattle.policy_words.specs.declared.word.Letter.{Letter}
use Rattle.policy_words.specs.declared.word.Letter.TheVariants.{Requester, Resource, A as LetterA, B as LetterB}
use Rattle.policy.specs.declared.letters.Letters.{Letters}

-- whether two letters are one
abbrev pub number : Letter → ℕ
number Requester = 0
number Resource = 1
number LetterA = 2
number LetterB = 3

abbrev pub alike : Letter → Letter → Bool
alike u v = number u == number v

-- whether a set has a letter
abbrev pub has : Letter → Letters → Bool
has Requester s = s.requester
has Resource s = s.resource
has LetterA s = s.a
has LetterB s = s.b

-- the letters that every request gives
abbrev pub given : Letter → Bool
given Requester = true
given Resource = true
given LetterA = false
given LetterB = false

-- and one letter more
abbrev pub setting : Letter → (Letter → Bool) → Letter → Bool
setting u s v = alike v u || s v
