-- Ties by their numbers.
use Rattle.std.specs.Prelude.{ℕ, Bool, ◌&&◌, ◌==◌}
use Rattle.book.specs.declared.tie.Tie.{Tie}
use Rattle.book.specs.declared.tie.Direction.{Direction}
use Rattle.book.specs.declared.tie.Neighbours.{Neighbours}
use Rattle.book.specs.declared.tie.Direction.TheVariants.{Forward, Backward}

-- x is the tie of the label l from f to t
abbrev pub is_tie : Tie → ℕ → ℕ → ℕ → Bool
is_tie x l f t = x.label == l && (x.from == f && x.to == t)

-- two ties are the same: their label, their from-name and their to-name are
abbrev pub same_tie : Tie → Tie → Bool
same_tie x y = is_tie x y.label y.from y.to

-- the tie of the label l that joins s to y along a direction: from s forward, to s backward
abbrev pub joining : ℕ → Direction → ℕ → ℕ → Tie
joining l Forward s y = record { label = l; from = s; to = y }
joining l Backward s y = record { label = l; from = y; to = s }

-- the tie that makes y one of the neighbours
abbrev pub toward : Neighbours → ℕ → Tie
toward of y = joining of.label of.direction of.name y
