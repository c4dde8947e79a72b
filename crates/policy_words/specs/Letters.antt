-- How the letters of policies are written.
use Rattle.std.specs.Prelude.{ℕ, List, codes}
use Rattle.policy_words.specs.declared.word.Letter.{Letter}
use Rattle.policy_words.specs.declared.word.Letter.TheVariants as L

-- the text of a letter
abbrev pub letter_text : Letter → List ℕ
letter_text L.Requester = codes "q"
letter_text L.Resource = codes "r"
letter_text L.A = codes "a"
letter_text L.B = codes "b"
