-- The numbers by which faults are told.
use Rattle.std.specs.Prelude.{ℕ}
use Rattle.policy_words.specs.Shape.{shape_number}
use Rattle.policy.specs.declared.fault.WordsFault.{WordsFault}
use Rattle.policy.specs.declared.fault.WordsFault.TheVariants as F

abbrev pub fault_number : WordsFault → ℕ
fault_number (F.Shape s) = shape_number s
fault_number (F.Number k) = 1
fault_number (F.Loose k) = 12
fault_number (F.Unanchored k) = 13
