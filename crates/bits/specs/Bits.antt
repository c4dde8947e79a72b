-- Bits of words of 64 bits.
use Rattle.std.specs.Prelude.{ℕ, ◌/◌, ◌%◌, Bool, List, ◌==◌, slice_index}
use Rattle.std.specs.Int.{bit_at}

-- bit k of the word w is set
unfoldable pub bit : ℕ → ℕ → Bool
bit w k = bit_at w k == 1

-- bit i of a row of words is set, 64 to a word; past the words none is
abbrev pub bit_set : List ℕ → ℕ → Bool
bit_set ws i = bit (slice_index ws (i / 64)) (i % 64)
