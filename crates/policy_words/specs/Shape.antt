-- Where a list of words goes wrong.
use Rattle.std.specs.Prelude.{ℕ, ◌+◌, ◌<◌, ◌≤◌, List, length, take, Ok, Err, Result}
use Rattle.policy_words.specs.Tree.{Whole, Begins, Unfinished}
use Rattle.policy_words.specs.declared.word.Word.{Word}
use Rattle.policy_words.specs.declared.shape.ShapeFault.{ShapeFault}
use Rattle.policy_words.specs.declared.shape.ShapeFault.TheVariants.{Kind, Short, After, TooMany}

-- the number by which a fault is told
abbrev pub shape_number : ShapeFault → ℕ
shape_number (Kind k) = 8
shape_number Short = 9
shape_number (After k) = 10
shape_number TooMany = 11

-- what is told of at most 64 words: they are a formula's, or the first that goes wrong, or that one is still due
abbrev pub Shaped : List Word → Result (Unit {0}) ShapeFault → Type 0
Shaped ws (Ok u) = (length ws ≤ 64) × Whole ws
Shaped ws (Err (Kind k)) = (length ws ≤ 64) × (k < length ws) × Unfinished (take k ws) × (Begins (take (k + 1) ws) → ⊥)
Shaped ws (Err Short) = (length ws ≤ 64) × Unfinished ws
Shaped ws (Err (After k)) = (length ws ≤ 64) × (k < length ws) × Whole (take k ws)
Shaped ws (Err TooMany) = 64 < length ws
