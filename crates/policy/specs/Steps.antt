-- What one word does to the letters that are free or set.
use Rattle.std.specs.Prelude.{Bool, true, not, ◌&&◌, ◌||◌}
use Rattle.policy_words.specs.declared.word.Letter.{Letter}
use Rattle.policy_words.specs.declared.word.Word.{Word}
use Rattle.policy_words.specs.declared.word.Word.TheVariants as W
use Rattle.policy.specs.Letters.{alike, setting}

-- whether v is free under the word, where b says whether it is free in an operand
abbrev pub free_by : Letter → Word → Bool → Bool
free_by v (W.Letter u) b = alike v u || b
free_by v (W.AtLetter u) b = alike v u || b
free_by v (W.Bind u) b = not (alike v u) && b
free_by v _ b = b

-- whether the word names no letter but those that are set
abbrev pub settled : (Letter → Bool) → Word → Bool
settled s (W.Letter v) = s v
settled s (W.AtLetter v) = s v
settled s _ = true

-- the letters that are set in the operands
abbrev pub set_by : Word → (Letter → Bool) → Letter → Bool
set_by (W.Bind v) s = setting v s
set_by _ s = s
