-- Rolls: three lists of words, and why their texts are refused.
use Rattle.std.specs.Prelude.{ℕ, min, List as Seq, length, Some, None, Option}
use Rattle.std.specs.List.{slice_get}
use Rattle.book.specs.declared.counts.Counts.{Counts}
use Rattle.text.specs.Text.{words}
use Rattle.roll.specs.Lists.{Good, ListTold, list_fault, numbered, place_of}
use Rattle.roll.specs.declared.list.List.{List}
use Rattle.roll.specs.declared.list.List.TheVariants.{Names, Labels, Marks}
use Rattle.roll.specs.declared.list.ListFault.{ListFault}
use Rattle.roll.specs.declared.roll.Roll.{Roll}
use Rattle.roll.specs.declared.roll.RollFault.{RollFault}

-- the text of a list
abbrev pub text_of : Roll → List → Seq ℕ
text_of r Names = r.names.now
text_of r Labels = r.labels.now
text_of r Marks = r.marks.now

-- the words of a list
abbrev pub words_of : Roll → List → Seq (Seq ℕ)
words_of r list = words (text_of r list)

-- each text makes its list, as in every roll
abbrev pub Sound : Roll → Type 0
Sound r = (list : List) → Good list (words_of r list)

-- how many words each list has, 65 for more than 64
abbrev pub counts_of : Roll → Counts
counts_of r = record { names = min 65 (length (words_of r Names)); labels = min 65 (length (words_of r Labels)); marks = min 65 (length (words_of r Marks)) }

-- the number of a word in a list
abbrev pub number_of : Roll → List → Seq ℕ → Option ℕ
number_of r list w = place_of w (numbered (text_of r list))

-- the word of a number in a list
abbrev pub word_of : Roll → List → ℕ → Option (Seq ℕ)
word_of r list n = slice_get (numbered (text_of r list)) n

-- what is to be told of the texts of names, labels and marks: the first faulty text decides
abbrev pub RollTold : Seq ℕ → Seq ℕ → Seq ℕ → Option RollFault → Type 0
RollTold names labels marks None = Good Names (words names) × Good Labels (words labels) × Good Marks (words marks)
RollTold names labels marks (Some f) = elim f.list [
  | Names ↦ ListTold Names (words names) (Some f.fault)
  | Labels ↦ Good Names (words names) × ListTold Labels (words labels) (Some f.fault)
  | Marks ↦ Good Names (words names) × Good Labels (words labels) × ListTold Marks (words marks) (Some f.fault)
]

-- The same as a function.

-- a fault of this list, else what comes later
abbrev pub or_later : List → Option ListFault → Option RollFault → Option RollFault
or_later list (Some f) later = Some record { list = list; fault = f }
or_later list None later = later

-- the fault of the texts of names, labels and marks
abbrev pub roll_fault : Seq ℕ → Seq ℕ → Seq ℕ → Option RollFault
roll_fault names labels marks =
    or_later Names (list_fault Names (words names)) (or_later Labels (list_fault Labels (words labels)) (or_later Marks (list_fault Marks (words marks)) None))
