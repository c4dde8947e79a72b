-- Mark facts as bits: the name n has the mark k when bit 64 * k + n is set.
use Rattle.std.specs.Prelude.{◌≡◌, ℕ, ◌+◌, ◌*◌, Bool, List}
use Rattle.bits.specs.Bits.{bit_set}
use Rattle.book.specs.Meaning.{inside2, count2}
use Rattle.book.specs.declared.counts.Counts.{Counts}

-- the mark facts that the words tell, within the counts
abbrev pub marks_in : Counts → List ℕ → ℕ → ℕ → Bool
marks_in c ws = inside2 c (λ k n. bit_set ws (64 * k + n))

-- as many as are told
abbrev pub CountedMarks : Counts → List ℕ → ℕ → Type 0
CountedMarks c ws used = used ≡ count2 c.marks c.names (marks_in c ws)
