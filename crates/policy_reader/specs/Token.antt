-- How a word is cut into a sign and an operand.
use Rattle.std.specs.Prelude.{◌≡◌, ℕ, List, [], ◌++◌, codes, ◌≢◌}
use Rattle.policy_reader.specs.declared.token.Operand.{Operand}
use Rattle.policy_reader.specs.declared.token.Token.{Token}
use Rattle.policy_reader.specs.declared.token.Token.TheVariants as T
use Rattle.policy_reader.specs.declared.fault.Cause.{Cause}
use Rattle.policy_reader.specs.declared.fault.Cause.TheVariants as C

-- the fourteen signs, `@` with its second byte as two
pub data Sign : Type 0 where
  Name : Sign
  Letter : Sign
  Mark : Sign
  Not : Sign
  And : Sign
  Or : Sign
  AtLetter : Sign
  AtName : Sign
  Bind : Sign
  Follow : Sign
  Forward : Sign
  Backward : Sign
  Seq : Sign
  Plus : Sign
  Stay : Sign

abbrev pub mark : Sign → List ℕ
mark Name = codes "#"
mark Letter = codes "?"
mark Mark = codes "%"
mark Not = codes "!"
mark And = codes "&"
mark Or = codes ":"
mark AtLetter = codes "@?"
mark AtName = codes "@#"
mark Bind = codes "$"
mark Follow = codes "/"
mark Forward = codes ">"
mark Backward = codes "<"
mark Seq = codes ";"
mark Plus = codes "+"
mark Stay = codes "="

-- a token's sign, and its operand
abbrev pub sign : Token → Sign
sign (T.Name o) = Name
sign (T.Letter o) = Letter
sign (T.Mark o) = Mark
sign (T.Not o) = Not
sign (T.And o) = And
sign (T.Or o) = Or
sign (T.AtLetter o) = AtLetter
sign (T.AtName o) = AtName
sign (T.Bind o) = Bind
sign (T.Follow o) = Follow
sign (T.Forward o) = Forward
sign (T.Backward o) = Backward
sign (T.Seq o) = Seq
sign (T.Plus o) = Plus
sign (T.Stay o) = Stay

abbrev pub operand : Token → Operand
operand (T.Name o) = o
operand (T.Letter o) = o
operand (T.Mark o) = o
operand (T.Not o) = o
operand (T.And o) = o
operand (T.Or o) = o
operand (T.AtLetter o) = o
operand (T.AtName o) = o
operand (T.Bind o) = o
operand (T.Follow o) = o
operand (T.Forward o) = o
operand (T.Backward o) = o
operand (T.Seq o) = o
operand (T.Plus o) = o
operand (T.Stay o) = o

-- why a word has no sign
abbrev pub Unsigned : List ℕ → Cause → Type 0
Unsigned bs C.Empty = bs ≡ []
Unsigned bs C.Sign = (bs ≢ []) × ((s : Sign) (o : List ℕ) → bs ≢ mark s ++ o)
Unsigned bs _ = ⊥
