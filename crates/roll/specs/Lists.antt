-- The words of one list, their numbers, and why a list is refused.
use Rattle.std.specs.Prelude.{◌≡◌, ℕ, ◌+◌, ◌<◌, Bool, true, false, ◌&&◌, List as Seq, [], ◌∷◌, length, take, Some, None, Option, is_none, ◌≢◌, slice_index_or, All, AllPairs, position}
use Rattle.std.specs.Str.{bytes_eq}
use Rattle.book.specs.Limits.{Within, within}
use Rattle.book.specs.declared.counts.Counts.{Counts}
use Rattle.text.specs.Text.{words, start_of}
use Rattle.text.specs.Word.{Fine, Wrong, cause_of}
use Rattle.text.specs.declared.word.WordCause.{WordCause}
use Rattle.text.specs.declared.word.WordFault.{WordFault}
use Rattle.roll.specs.declared.list.List.{List}
use Rattle.roll.specs.declared.list.List.TheVariants.{Names, Labels, Marks}
use Rattle.roll.specs.declared.list.ListFault.{ListFault}
use Rattle.roll.specs.declared.list.ListFault.TheVariants.{Word, CountOrRepeat}

-- the words of a text that have a number: its first 64
abbrev pub numbered : Seq ℕ → Seq (Seq ℕ)
numbered t = take 64 (words t)

-- the first place of w in a list
abbrev pub place_of : Seq ℕ → Seq (Seq ℕ) → Option ℕ
place_of w ws = position (λ v. bytes_eq v w) ws

-- no word comes twice
abbrev pub Distinct : Seq (Seq ℕ) → Type 0
Distinct ws = AllPairs (λ v w. v ≢ w) ws

-- counts of which this list has n, and the others as few as they may
abbrev pub alone : List → ℕ → Counts
alone Names n = record { names = n; labels = 0; marks = 0 }
alone Labels n = record { names = 1; labels = n; marks = 0 }
alone Marks n = record { names = 1; labels = 0; marks = n }

-- the words make a list: each fine by itself, as many as the list may have, none twice
pub record Good (list : List) (ws : Seq (Seq ℕ)) : Type 0 where
  pub fine : All Fine ws
  pub within : Within (alone list (length ws))
  pub apart : Distinct ws

-- the fault f is that of the first word that is not fine, and tells where that word begins
pub record FirstWrong (ws : Seq (Seq ℕ)) (f : WordFault WordCause) : Type 0 where
  pub place : ℕ
  pub there : place < length ws
  pub before : All Fine (take place ws)
  pub here : Wrong (slice_index_or ws place []) f.cause
  pub starts : f.at ≡ start_of place ws

-- each word is fine by itself, but there are too few, too many, or one comes twice
pub record WrongTogether (list : List) (ws : Seq (Seq ℕ)) : Type 0 where
  pub fine : All Fine ws
  pub not_both : Within (alone list (length ws)) → Distinct ws → ⊥

-- what is to be told of a list's words: no fault, or which
abbrev pub ListTold : List → Seq (Seq ℕ) → Option ListFault → Type 0
ListTold list ws None = Good list ws
ListTold list ws (Some (Word f)) = FirstWrong ws f
ListTold list ws (Some CountOrRepeat) = WrongTogether list ws

-- The same as a function.

-- a fault at the byte `at`, else a later one
abbrev pub fault_at : ℕ → Option WordCause → Option (WordFault WordCause) → Option (WordFault WordCause)
fault_at at (Some c) later = Some record { cause = c; at = at }
fault_at at None later = later

-- the first faulty one of words of which the first begins at the byte `at`
abbrev pub first_fault : ℕ → Seq (Seq ℕ) → Option (WordFault WordCause)
first_fault at [] = None
first_fault at (w ∷ ws) = fault_at at (cause_of w) (first_fault (at + length w + 1) ws)

-- no word comes twice, as a test
abbrev pub distinct : Seq (Seq ℕ) → Bool
distinct [] = true
distinct (w ∷ ws) = is_none (place_of w ws) && distinct ws

-- the first faulty word decides, then the words together
abbrev pub fault_then : Option (WordFault WordCause) → Bool → Option ListFault
fault_then (Some f) b = Some (Word f)
fault_then None true = None
fault_then None false = Some CountOrRepeat

-- the fault of a list's words
abbrev pub list_fault : List → Seq (Seq ℕ) → Option ListFault
list_fault list ws = fault_then (first_fault 0 ws) (within (alone list (length ws)) && distinct ws)
