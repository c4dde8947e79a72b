-- What is wrong with a word by itself, as the cause of a policy's word.
use Rattle.text.specs.declared.word.WordCause.{WordCause}
use Rattle.text.specs.declared.word.WordCause.TheVariants.{BadByte, BadLength}
use Rattle.policy_reader.specs.declared.fault.Cause.{Cause}
use Rattle.policy_reader.specs.declared.fault.Cause.TheVariants.{Byte, Length}

-- the cause of an operand that is faulty as a word of a list
abbrev pub operand_cause : WordCause → Cause
operand_cause BadByte = Byte
operand_cause BadLength = Length
