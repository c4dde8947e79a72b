-- What a check answers, and what a new board means.
use Rattle.std.specs.Prelude.{ℕ, ◌+◌, ◌/◌, cond, is_ok, Ok, Err, Result, nat_le}
use Rattle.book.specs.Limits.{count_number, within, least}
use Rattle.book.specs.Meaning.{Meaning, opened}
use Rattle.book.specs.declared.counts.Counts.{Counts}
use Rattle.book.specs.declared.counts.CountRefusal.TheVariants.{OutsideLimits}
use Rattle.board_book.specs.TieBits.{possible}
use Rattle.board_book.specs.declared.refusal.BoardRefusal.{BoardRefusal}
use Rattle.board_book.specs.declared.refusal.BoardRefusal.TheVariants.{Counts as CountsRefused, FewWords}

-- the number by which a refusal of a check is told
abbrev pub board_number : BoardRefusal → ℕ
board_number (CountsRefused e) = count_number e
board_number FewWords = 14

-- how many words a board of these counts needs: one for each 64 possible ties, or part of them
abbrev pub needed : Counts → ℕ
needed c = (possible c + 63) / 64

-- what the check of counts and of a number of words answers: 20, then 14
abbrev pub fitting : Counts → ℕ → Result (Unit {0}) BoardRefusal
fitting c n = cond (within c) (cond (nat_le (needed c) n) (Ok tt) (Err FewWords)) (Err (CountsRefused OutsideLimits))

-- the counts that a board is made with: those that were asked for, or the least where the check fails
abbrev pub fitted : Counts → ℕ → Counts
fitted c n = cond (is_ok (fitting c n)) c least

-- what a new board means: no tie and no mark fact, and room for every possible tie
abbrev pub board_opened : Counts → ℕ → Meaning
board_opened c n = cond (is_ok (fitting c n)) (opened c (possible c)) (opened least 0)
