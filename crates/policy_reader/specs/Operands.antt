-- What is read of an operand.
use Rattle.std.specs.Prelude.{◌≡◌, Bool, Result, MatchResult}
use Rattle.text.specs.declared.word.WordFault.{WordFault}
use Rattle.policy_reader.specs.Spell.{Breaks}
use Rattle.policy_reader.specs.declared.fault.Cause.{Cause}
use Rattle.policy_reader.specs.declared.token.Operand.{Operand}

-- the fault f is that of the word of the operand o: the first rule that o breaks, where its sign is bare or not, and L says that o is in its list
abbrev pub IsFaultOf : Bool → Operand → Type 0 → WordFault Cause → Type 0
IsFaultOf b o L f = (f.at ≡ o.at) × Breaks b o.bytes.now L f.cause

-- the operand o, whose sign is bare or not, is read as a value of which P holds, or is faulty
abbrev pub ReadAs : {V : Type 0} → Bool → Operand → (V → Type 0) → Result V (WordFault Cause) → Type 0
ReadAs {V = V} b o P r = MatchResult r P (IsFaultOf b o ((v : V) × P v))
