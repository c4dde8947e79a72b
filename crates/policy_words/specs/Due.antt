-- What is due while words are read: first paths, then formulas.
use Rattle.std.specs.Prelude.{◌≡◌, ℕ, List, ◌∷◌, ◌++◌, length}
use Rattle.std.specs.List.{flat_map}
use Rattle.policy_words.specs.Tree.{Formula, Path, words, steps, Whole}
use Rattle.policy_words.specs.declared.word.Word.{Word}
use Rattle.policy_words.specs.declared.word.Word.TheVariants as W

-- how many paths, and how many formulas, a word takes as operands, the paths first
abbrev pub paths_of : Word → ℕ
paths_of (W.Name n) = 0
paths_of (W.Letter v) = 0
paths_of (W.Mark m) = 0
paths_of W.Not = 0
paths_of W.And = 0
paths_of W.Or = 0
paths_of (W.AtLetter v) = 0
paths_of (W.AtName n) = 0
paths_of (W.Bind v) = 0
paths_of W.Follow = 1
paths_of (W.Forward l) = 0
paths_of (W.Backward l) = 0
paths_of W.Seq = 2
paths_of W.Plus = 1
paths_of W.Stay = 0

abbrev pub formulas_of : Word → ℕ
formulas_of (W.Name n) = 0
formulas_of (W.Letter v) = 0
formulas_of (W.Mark m) = 0
formulas_of W.Not = 1
formulas_of W.And = 2
formulas_of W.Or = 2
formulas_of (W.AtLetter v) = 1
formulas_of (W.AtName n) = 1
formulas_of (W.Bind v) = 1
formulas_of W.Follow = 1
formulas_of (W.Forward l) = 0
formulas_of (W.Backward l) = 0
formulas_of W.Seq = 0
formulas_of W.Plus = 0
formulas_of W.Stay = 0

-- the words of paths, and of formulas, in a row
abbrev pub all_steps : List Path → List Word
all_steps ps = flat_map steps ps

abbrev pub all_words : List Formula → List Word
all_words fs = flat_map words fs

-- ws writes i paths and then j formulas
abbrev pub Row : ℕ → ℕ → List Word → Type 0
Row i j ws = (ps : List Path) × (fs : List Formula) × (length ps ≡ i) × (length fs ≡ j) × (ws ≡ all_steps ps ++ all_words fs)

-- Where i paths and j formulas are due, and then the word w is read, m paths and n formulas are due.
abbrev pub Turns : Word → ℕ → ℕ → ℕ → ℕ → Type 0
Turns w i j m n = (rest : List Word) → (Row i j (w ∷ rest) → Row m n rest) × (Row m n rest → Row i j (w ∷ rest))

-- Where i paths and j formulas are due, the word w cannot be read.
abbrev pub Stuck : Word → ℕ → ℕ → Type 0
Stuck w i j = (rest : List Word) → Row i j (w ∷ rest) → ⊥

-- What may follow ws in a policy: i paths and then j formulas, and nothing else.
abbrev pub Owes : List Word → ℕ → ℕ → Type 0
Owes ws i j = (rest : List Word) → (Whole (ws ++ rest) → Row i j rest) × (Row i j rest → Whole (ws ++ rest))
