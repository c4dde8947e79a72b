-- Formulas over paths, and the words that write them, each before its operands.
use Rattle.std.specs.Prelude.{◌≡◌, ℕ, ◌<◌, Bool, true, false, List, [], ◌∷◌, ◌++◌, ◌≢◌, nat_lt}
use Rattle.std.specs.List.{All}
use Rattle.policy_words.specs.declared.word.Letter.{Letter}
use Rattle.policy_words.specs.declared.word.Letter.TheVariants as L
use Rattle.policy_words.specs.declared.word.Word.{Word}
use Rattle.policy_words.specs.declared.word.Word.TheVariants as W

-- formulas, which hold at a name, and paths, which join one name to another
mutual
  pub data Formula : Type 0 where
    is : ℕ → Formula
    same : Letter → Formula
    has : ℕ → Formula
    neg : Formula → Formula
    both : Formula → Formula → Formula
    either : Formula → Formula → Formula
    at_letter : Letter → Formula → Formula
    at_name : ℕ → Formula → Formula
    bind : Letter → Formula → Formula
    some : Path → Formula → Formula

  pub data Path : Type 0 where
    forward : ℕ → Path
    backward : ℕ → Path
    seq : Path → Path → Path
    plus : Path → Path
    stay : Path

-- the words of a formula and of a path
abbrev mutual
  pub words : Formula → List Word
  words (is n) = W.Name n ∷ []
  words (same v) = W.Letter v ∷ []
  words (has m) = W.Mark m ∷ []
  words (neg f) = W.Not ∷ words f
  words (both f g) = W.And ∷ words f ++ words g
  words (either f g) = W.Or ∷ words f ++ words g
  words (at_letter v f) = W.AtLetter v ∷ words f
  words (at_name n f) = W.AtName n ∷ words f
  words (bind v f) = W.Bind v ∷ words f
  words (some p f) = W.Follow ∷ steps p ++ words f

  pub steps : Path → List Word
  steps (forward l) = W.Forward l ∷ []
  steps (backward l) = W.Backward l ∷ []
  steps (seq p t) = W.Seq ∷ steps p ++ steps t
  steps (plus p) = W.Plus ∷ steps p
  steps stay = W.Stay ∷ []

-- the first word of a formula
abbrev pub root : Formula → Word
root (is n) = W.Name n
root (same v) = W.Letter v
root (has m) = W.Mark m
root (neg f) = W.Not
root (both f g) = W.And
root (either f g) = W.Or
root (at_letter v f) = W.AtLetter v
root (at_name n f) = W.AtName n
root (bind v f) = W.Bind v
root (some p f) = W.Follow

-- whether a word begins a path
abbrev pub is_path : Word → Bool
is_path (W.Name n) = false
is_path (W.Letter v) = false
is_path (W.Mark m) = false
is_path W.Not = false
is_path W.And = false
is_path W.Or = false
is_path (W.AtLetter v) = false
is_path (W.AtName n) = false
is_path (W.Bind v) = false
is_path W.Follow = false
is_path (W.Forward l) = true
is_path (W.Backward l) = true
is_path W.Seq = true
is_path W.Plus = true
is_path W.Stay = true

-- the letters that a `$` can set
abbrev pub Settable : Letter → Type 0
Settable L.Requester = ⊥
Settable L.Resource = ⊥
Settable L.A = Unit {0}
Settable L.B = Unit {0}

-- name numbers are below 64, label and mark numbers below 16, and only a and b are set
abbrev pub Allowed : Word → Type 0
Allowed (W.Name n) = n < 64
Allowed (W.Letter v) = Unit {0}
Allowed (W.Mark m) = m < 16
Allowed W.Not = Unit {0}
Allowed W.And = Unit {0}
Allowed W.Or = Unit {0}
Allowed (W.AtLetter v) = Unit {0}
Allowed (W.AtName n) = n < 64
Allowed (W.Bind v) = Settable v
Allowed W.Follow = Unit {0}
Allowed (W.Forward l) = l < 16
Allowed (W.Backward l) = l < 16
Allowed W.Seq = Unit {0}
Allowed W.Plus = Unit {0}
Allowed W.Stay = Unit {0}

-- the same as a test
abbrev pub settable : Letter → Bool
settable L.Requester = false
settable L.Resource = false
settable L.A = true
settable L.B = true

abbrev pub allowed : Word → Bool
allowed (W.Name n) = nat_lt n 64
allowed (W.Letter v) = true
allowed (W.Mark m) = nat_lt m 16
allowed W.Not = true
allowed W.And = true
allowed W.Or = true
allowed (W.AtLetter v) = true
allowed (W.AtName n) = nat_lt n 64
allowed (W.Bind v) = settable v
allowed W.Follow = true
allowed (W.Forward l) = nat_lt l 16
allowed (W.Backward l) = nat_lt l 16
allowed W.Seq = true
allowed W.Plus = true
allowed W.Stay = true

-- each word is allowed
abbrev pub EachAllowed : List Word → Type 0
EachAllowed ws = All Allowed ws

-- ws are the words of a formula
abbrev pub Whole : List Word → Type 0
Whole ws = (f : Formula) × (words f ≡ ws)

-- ws are the first words of a formula, perhaps all
abbrev pub Begins : List Word → Type 0
Begins ws = (f : Formula) × (rest : List Word) × (words f ≡ ws ++ rest)

-- ws are the first words of a formula that has more
abbrev pub Unfinished : List Word → Type 0
Unfinished ws = (f : Formula) × (w : Word) × (rest : List Word) × (words f ≡ ws ++ w ∷ rest)

-- words determine the formula that they write
abbrev pub Unambiguous : Type 0
Unambiguous = (f g : Formula) → words f ≡ words g → f ≡ g

-- and no formula's words begin another's
abbrev pub PrefixFree : Type 0
PrefixFree = (f g : Formula) (w : Word) (rest : List Word) → words g ≢ words f ++ w ∷ rest
