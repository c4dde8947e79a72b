-- The numbers by which lists and faults are told, and the places of faults.
use Rattle.std.specs.Prelude.{ℕ, Some, None, Option}
use Rattle.text.specs.Word.{cause_number}
use Rattle.roll.specs.declared.list.List.{List}
use Rattle.roll.specs.declared.list.List.TheVariants.{Names, Labels, Marks}
use Rattle.roll.specs.declared.list.ListFault.{ListFault}
use Rattle.roll.specs.declared.list.ListFault.TheVariants.{Word, CountOrRepeat}
use Rattle.roll.specs.declared.roll.RollFault.{RollFault}

-- the number of a list
abbrev pub list_number : List → ℕ
list_number Names = 0
list_number Labels = 1
list_number Marks = 2

-- the number of a list's fault
abbrev pub fault_number : ListFault → ℕ
fault_number (Word f) = cause_number f.cause
fault_number CountOrRepeat = 20

-- the byte offset that a list's fault tells
abbrev pub fault_place : ListFault → Option ℕ
fault_place (Word f) = Some f.at
fault_place CountOrRepeat = None

-- the number of a roll's fault
abbrev pub roll_number : RollFault → ℕ
roll_number f = fault_number f.fault

-- the byte offset that a roll's fault tells
abbrev pub roll_place : RollFault → Option ℕ
roll_place f = fault_place f.fault
