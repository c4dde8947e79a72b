-- How a tally is written.
use Rattle.std.specs.Prelude.{ℕ, List, ◌++◌, codes, decimal}
use Rattle.requests.specs.declared.request.Tally.{Tally}

-- each number behind its name, in decimal
abbrev pub tally_text : Tally → List ℕ
tally_text t =
    codes "names=" ++ (decimal t.counts.names
    ++ (codes " labels=" ++ (decimal t.counts.labels
    ++ (codes " marks=" ++ (decimal t.counts.marks
    ++ (codes " ties=" ++ (decimal t.ties
    ++ (codes " marked=" ++ (decimal t.marked
    ++ (codes " capacity=" ++ decimal t.capacity))))))))))
