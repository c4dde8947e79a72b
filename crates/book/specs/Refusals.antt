-- The numbers by which the refusals of a book are told.
use Rattle.std.specs.Prelude.{ℕ}
use Rattle.book.specs.declared.refusal.RangeRefusal.{RangeRefusal}
use Rattle.book.specs.declared.refusal.RangeRefusal.TheVariants.{OutOfRange}
use Rattle.book.specs.declared.refusal.EnterRefusal.{EnterRefusal}
use Rattle.book.specs.declared.refusal.EnterRefusal.TheVariants.{Range, Full}

-- the number of a refusal of a number
abbrev pub range_number : RangeRefusal → ℕ
range_number OutOfRange = 1

-- the number of a refusal to enter
abbrev pub enter_number : EnterRefusal → ℕ
enter_number (Range e) = range_number e
enter_number Full = 2
