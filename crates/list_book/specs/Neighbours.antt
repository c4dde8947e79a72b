-- The neighbours that the ties of a list make.
use Rattle.std.specs.Prelude.{ℕ, min, ◌&&◌, List, filter, Some, None, Option, nat_eq, nat_le, if◌then◌else◌}
use Rattle.std.specs.List.{filter_map, reduce}
use Rattle.book.specs.declared.tie.Tie.{Tie}
use Rattle.book.specs.declared.tie.Direction.{Direction}
use Rattle.book.specs.declared.tie.Direction.TheVariants.{Forward, Backward}
use Rattle.book.specs.declared.tie.Neighbours.{Neighbours}

-- the end of a tie at which the name stands whose neighbours are sought, and the other end
abbrev pub near : Direction → Tie → ℕ
near Forward t = t.from
near Backward t = t.to

abbrev pub far : Direction → Tie → ℕ
far Forward t = t.to
far Backward t = t.from

-- the neighbour that a tie makes, if it makes one
abbrev pub neighbour_by : Neighbours → Tie → Option ℕ
neighbour_by of t = if nat_eq t.label of.label && nat_eq (near of.direction t) of.name then Some (far of.direction t) else None

-- the lowest neighbour not below `at` that the ties make
abbrev pub lowest : Neighbours → ℕ → List Tie → Option ℕ
lowest of at xs = reduce min (filter (nat_le at) (filter_map (neighbour_by of) xs))
