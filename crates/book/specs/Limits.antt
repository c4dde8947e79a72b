-- The limits of the three counts of a book and of a roll.
use Rattle.std.specs.Prelude.{ℕ, ◌≤◌, Bool, cond, ◌&&◌, Ok, Err, Result, nat_le}
use Rattle.book.specs.declared.counts.Counts.{Counts}
use Rattle.book.specs.declared.counts.CountRefusal.{CountRefusal}
use Rattle.book.specs.declared.counts.CountRefusal.TheVariants.{OutsideLimits}

-- the number by which a refusal of counts is told
abbrev pub count_number : CountRefusal → ℕ
count_number OutsideLimits = 20

-- 1 to 64 names, 0 to 16 labels, 0 to 16 marks
pub record Within (c : Counts) : Type 0 where
  pub some_name : 1 ≤ c.names
  pub few_names : c.names ≤ 64
  pub few_labels : c.labels ≤ 16
  pub few_marks : c.marks ≤ 16

-- the same, as a test
abbrev pub within : Counts → Bool
within c = nat_le 1 c.names && nat_le c.names 64 && nat_le c.labels 16 && nat_le c.marks 16

-- what a check of counts answers
abbrev pub checked : Counts → Result (Unit {0}) CountRefusal
checked c = cond (within c) (Ok tt) (Err OutsideLimits)

-- one name, no label and no mark
abbrev pub least : Counts
least = record { names = 1; labels = 0; marks = 0 }

-- the counts that a book is made with: those that were asked for, or the least where these are
-- outside their limits
abbrev pub made_counts : Counts → Counts
made_counts c = cond (within c) c least
