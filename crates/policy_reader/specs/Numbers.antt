-- The numbers and the places by which faults are told.
use Rattle.std.specs.Prelude.{ℕ}
use Rattle.policy_reader.specs.declared.fault.Cause.{Cause}
use Rattle.policy_reader.specs.declared.fault.Cause.TheVariants.{Empty, Sign, Byte, Length, Unlisted}
use Rattle.policy_reader.specs.declared.fault.PolicyFault.{PolicyFault}
use Rattle.policy_reader.specs.declared.fault.PolicyFault.TheVariants as P

-- the number of a word's fault
abbrev pub cause_number : Cause → ℕ
cause_number Empty = 5
cause_number Sign = 7
cause_number Byte = 4
cause_number Length = 5
cause_number Unlisted = 6

-- the number of a policy's fault
abbrev pub fault_number : PolicyFault → ℕ
fault_number (P.Word f) = cause_number f.cause
fault_number (P.Kind n) = 8
fault_number (P.Short n) = 9
fault_number (P.After n) = 10
fault_number (P.TooMany n) = 11
fault_number (P.Loose n) = 12
fault_number (P.Unanchored n) = 13

-- the byte offset that it tells
abbrev pub fault_place : PolicyFault → ℕ
fault_place (P.Word f) = f.at
fault_place (P.Kind n) = n
fault_place (P.Short n) = n
fault_place (P.After n) = n
fault_place (P.TooMany n) = n
fault_place (P.Loose n) = n
fault_place (P.Unanchored n) = n
