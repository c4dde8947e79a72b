-- What is to be told of a text under a roll: the formula that it spells, or the first fault.
use Rattle.std.specs.Prelude.{◌≡◌, ℕ, ◌<◌, ◌≤◌, List, [], ◌∷◌, ◌++◌, length, take, Ok, Err, Result, slice_index_or}
use Rattle.std.specs.List.{AllByRecursion, AllZip}
use Rattle.text.specs.Text.{words as text_words, start_of}
use Rattle.book.specs.declared.counts.Counts.{Counts}
use Rattle.roll.specs.declared.roll.Roll.{Roll}
use Rattle.policy_words.specs.Tree.{Formula, words, Whole, Begins, Unfinished}
use Rattle.policy_words.specs.declared.word.Word.{Word}
use Rattle.policy_words.specs.declared.word.Word.TheVariants as W
use Rattle.policy.specs.Letters.{given}
use Rattle.policy.specs.Free.{Loose, First, Closed}
use Rattle.policy.specs.Anchor.{Anchored, Stray}
use Rattle.policy.specs.Policies.{Means}
use Rattle.policy.specs.declared.policy.Policy.{Policy}
use Rattle.policy_reader.specs.Spell.{Spells, Wrong}
use Rattle.policy_reader.specs.declared.fault.PolicyFault.{PolicyFault}
use Rattle.policy_reader.specs.declared.fault.PolicyFault.TheVariants as P

-- the pieces spell the words, each its own, and there are as many
abbrev pub EachSpells : Roll → List Word → List (List ℕ) → Type 0
EachSpells r ws bs = AllZip (Spells r) ws bs

-- the words of the text t spell the formula, which has at most 64 words
abbrev pub Spelled : Roll → List ℕ → Formula → Type 0
Spelled r t f = EachSpells r (words f) (text_words t) × (length (text_words t) ≤ 64)

-- word k of the text begins at the byte n, and the words before it spell vs
pub record Reaches (r : Roll) (t : List ℕ) (k n : ℕ) (vs : List Word) : Type 0 where
  pub there : k < length (text_words t)
  pub place : n ≡ start_of k (text_words t)
  pub before : EachSpells r vs (take k (text_words t))

-- the bytes of word k
abbrev pub word_at : List ℕ → ℕ → List ℕ
word_at t k = slice_index_or (text_words t) k []

-- what is to be told
abbrev pub Told : Roll → List ℕ → Result Formula PolicyFault → Type 0
-- a closed and anchored formula of at most 64 words, which the text spells
Told r t (Ok f) = Spelled r t f × Closed f × Anchored f
-- the word follows a finished formula
Told r t (Err (P.After n)) = (k : ℕ) × (vs : List Word) × Reaches r t k n vs × (k ≤ 64) × Whole vs
-- it is the 65th, and one is due
Told r t (Err (P.TooMany n)) = (k : ℕ) × (vs : List Word) × Reaches r t k n vs × (k ≡ 64) × Unfinished vs
-- it is faulty by itself
Told r t (Err (P.Word f)) = (k : ℕ) × (vs : List Word) × Reaches r t k f.at vs × (k < 64) × Unfinished vs × Wrong r (word_at t k) f.cause
-- it spells a word with which no formula goes on
Told r t (Err (P.Kind n)) = (k : ℕ) × (vs : List Word) × Reaches r t k n vs × (k < 64) × Unfinished vs × ((w : Word) × Spells r w (word_at t k) × (Begins (vs ++ w ∷ []) → ⊥))
-- all words of the text begin a formula that has more
Told r t (Err (P.Short n)) = (vs : List Word) × EachSpells r vs (text_words t) × (length (text_words t) ≤ 64) × Unfinished vs × (n ≡ length t)
-- the first loose word of the formula
Told r t (Err (P.Loose n)) = (f : Formula) × (k : ℕ) × Spelled r t f × First (Loose given f) k × (n ≡ start_of k (text_words t))
-- the first word that keeps a closed formula from being anchored
Told r t (Err (P.Unanchored n)) = (f : Formula) × (k : ℕ) × Spelled r t f × Closed f × First (Stray f) k × (n ≡ start_of k (text_words t))

-- the reader gave this
abbrev pub Gave : Result Policy PolicyFault → Result Formula PolicyFault → Type 0
Gave (Ok p) (Ok f) = Means p f
Gave (Ok p) (Err e) = ⊥
Gave (Err d) (Ok f) = ⊥
Gave (Err d) (Err e) = d ≡ e

-- the word's number, if it has one, is below the count of its list
abbrev pub Below : Counts → Word → Type 0
Below c (W.Name n) = n < c.names
Below c (W.AtName n) = n < c.names
Below c (W.Mark m) = m < c.marks
Below c (W.Forward l) = l < c.labels
Below c (W.Backward l) = l < c.labels
Below c _ = Unit {0}

-- each word's number is below the count of its list
abbrev pub EachBelow : Counts → List Word → Type 0
EachBelow c ws = AllByRecursion (Below c) ws
