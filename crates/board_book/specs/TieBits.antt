-- Ties as bits: one for each possible tie.
use Rattle.std.specs.Prelude.{◌≡◌, ℕ, ◌+◌, ◌*◌, ◌<◌, ◌≤◌, Bool, false, List}
use Rattle.bits.specs.Bits.{bit_set}
use Rattle.book.specs.Meaning.{Meaning, count3, inside3}
use Rattle.book.specs.declared.counts.Counts.{Counts}

-- the number of the bit of a tie
abbrev pub place : ℕ → ℕ → ℕ → ℕ → ℕ
place names l f t = (l * names + f) * names + t

-- how many ties are possible
abbrev pub possible : Counts → ℕ
possible c = c.labels * c.names * c.names

-- the ties that the words tell, within the counts
abbrev pub ties_in : Counts → List ℕ → ℕ → ℕ → ℕ → Bool
ties_in c ws = inside3 c (λ l f t. bit_set ws (place c.names l f t))

-- as many as are told
abbrev pub CountedTies : Counts → List ℕ → ℕ → Type 0
CountedTies c ws used = used ≡ count3 c.labels c.names (ties_in c ws)

-- no other bit is set
abbrev pub Clear : Counts → List ℕ → Type 0
Clear c ws = (i : ℕ) → possible c ≤ i → bit_set ws i ≡ false

-- the words tell the ties of a book: the bit of each possible tie is set when the tie is there
abbrev pub TellTies : Meaning → List ℕ → Type 0
TellTies m ws = (l f t : ℕ) → l < m.counts.labels → f < m.counts.names → t < m.counts.names → bit_set ws (place m.counts.names l f t) ≡ m.tied l f t
