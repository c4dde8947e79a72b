-- A formula in a table of words, in which a word with two operands has the number of its second.
use Rattle.std.specs.Prelude.{◌≡◌, ℕ, ◌+◌, ◌<◌, List, [], ◌∷◌, ◌++◌, map, length, Some, None, slice_index_or}
use Rattle.policy_words.specs.Tree.{Formula, Path, words, steps}
use Rattle.policy_words.specs.Tree.Formula.{is, same, has, neg, both, either, at_letter, at_name, bind, some}
use Rattle.policy_words.specs.Tree.Path.{forward, backward, seq, plus, stay}
use Rattle.policy_words.specs.declared.word.Word.{Word}
use Rattle.policy_words.specs.declared.word.Word.TheVariants as W
use Rattle.policy.specs.declared.entry.Entry.{Entry}

-- how many words a formula, and a path, has
abbrev pub size : Formula → ℕ
size f = length (words f)

abbrev pub extent : Path → ℕ
extent p = length (steps p)

-- a word with the number of its second operand, and a word that has no second operand
abbrev pub joint : Word → ℕ → Entry
joint w n = record { word = w; second = Some n }

abbrev pub plain : Word → Entry
plain w = record { word = w; second = None }

-- the table of a formula, and of a path, whose first word has the number k
abbrev mutual
  pub entries : ℕ → Formula → List Entry
  entries k (is n) = plain (W.Name n) ∷ []
  entries k (same v) = plain (W.Letter v) ∷ []
  entries k (has m) = plain (W.Mark m) ∷ []
  entries k (neg f) = plain W.Not ∷ entries (k + 1) f
  entries k (both f g) = joint W.And (k + 1 + size f) ∷ entries (k + 1) f ++ entries (k + 1 + size f) g
  entries k (either f g) = joint W.Or (k + 1 + size f) ∷ entries (k + 1) f ++ entries (k + 1 + size f) g
  entries k (at_letter v f) = plain (W.AtLetter v) ∷ entries (k + 1) f
  entries k (at_name n f) = plain (W.AtName n) ∷ entries (k + 1) f
  entries k (bind v f) = plain (W.Bind v) ∷ entries (k + 1) f
  entries k (some p f) = joint W.Follow (k + 1 + extent p) ∷ path_entries (k + 1) p ++ entries (k + 1 + extent p) f

  pub path_entries : ℕ → Path → List Entry
  path_entries k (forward l) = plain (W.Forward l) ∷ []
  path_entries k (backward l) = plain (W.Backward l) ∷ []
  path_entries k (seq p t) = joint W.Seq (k + 1 + extent p) ∷ path_entries (k + 1) p ++ path_entries (k + 1 + extent p) t
  path_entries k (plus p) = plain W.Plus ∷ path_entries (k + 1) p
  path_entries k stay = plain W.Stay ∷ []

-- the words of a table
abbrev pub words_in : List Entry → List Word
words_in es = map (λ e. e.word) es

-- the table has the entry e at the place k
abbrev pub Reads : List Entry → ℕ → Entry → Type 0
Reads es k e = (k < length es) × (slice_index_or es k (plain (W.Name 0)) ≡ e)

-- the path, or the formula, stands in the table from word k on
abbrev pub PathStands : List Entry → ℕ → Path → Type 0
PathStands es k (forward l) = Reads es k (plain (W.Forward l))
PathStands es k (backward l) = Reads es k (plain (W.Backward l))
PathStands es k (seq p t) = Reads es k (joint W.Seq (k + 1 + extent p)) × PathStands es (k + 1) p × PathStands es (k + 1 + extent p) t
PathStands es k (plus p) = Reads es k (plain W.Plus) × PathStands es (k + 1) p
PathStands es k stay = Reads es k (plain W.Stay)

abbrev pub Stands : List Entry → ℕ → Formula → Type 0
Stands es k (is n) = Reads es k (plain (W.Name n))
Stands es k (same v) = Reads es k (plain (W.Letter v))
Stands es k (has m) = Reads es k (plain (W.Mark m))
Stands es k (neg f) = Reads es k (plain W.Not) × Stands es (k + 1) f
Stands es k (both f g) = Reads es k (joint W.And (k + 1 + size f)) × Stands es (k + 1) f × Stands es (k + 1 + size f) g
Stands es k (either f g) = Reads es k (joint W.Or (k + 1 + size f)) × Stands es (k + 1) f × Stands es (k + 1 + size f) g
Stands es k (at_letter v f) = Reads es k (plain (W.AtLetter v)) × Stands es (k + 1) f
Stands es k (at_name n f) = Reads es k (plain (W.AtName n)) × Stands es (k + 1) f
Stands es k (bind v f) = Reads es k (plain (W.Bind v)) × Stands es (k + 1) f
Stands es k (some p f) = Reads es k (joint W.Follow (k + 1 + extent p)) × PathStands es (k + 1) p × Stands es (k + 1 + extent p) f
