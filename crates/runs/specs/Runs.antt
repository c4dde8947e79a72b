-- What a list of altering calls on a book comes to.
use Rattle.std.specs.Prelude.{◌≡◌, ℕ, Bool, true, false, cond, ◌&&◌, List, [], ◌∷◌, ◌++◌, Some, None, Ok, Err, Option, Result, ◌==◌}
use Rattle.runs.specs.declared.play.Call.{Call}
use Rattle.runs.specs.declared.play.Call.TheVariants.{Enter, Strike, SetMark, LiftMark}
use Rattle.book.specs.declared.refusal.RangeRefusal.{RangeRefusal}
use Rattle.book.specs.declared.refusal.EnterRefusal.{EnterRefusal}
use Rattle.book.specs.declared.refusal.EnterRefusal.TheVariants.{Range}
use Rattle.book.specs.Meaning.{Meaning}
use Rattle.book.specs.Ties.{is_tie}
use Rattle.book.specs.Calls.{entering, entered, striking, struck, marking, marked_as}

-- a refusal of a number as an answer of any altering call
abbrev pub ranging : Result (Unit {0}) RangeRefusal → Result (Unit {0}) EnterRefusal
ranging (Ok u) = Ok u
ranging (Err e) = Err (Range e)

-- what a call is answered
abbrev pub answer : Meaning → Call → Result (Unit {0}) EnterRefusal
answer m (Enter t) = entering m t
answer m (Strike t) = ranging (striking m t)
answer m (SetMark f) = ranging (marking m f)
answer m (LiftMark f) = ranging (marking m f)

-- what the book means after it
abbrev pub after : Meaning → Call → Meaning
after m (Enter t) = entered m t
after m (Strike t) = struck m t
after m (SetMark f) = marked_as m f true
after m (LiftMark f) = marked_as m f false

-- what the calls of a list, made one after the other, are answered
abbrev pub answered : Meaning → List Call → List (Result (Unit {0}) EnterRefusal)
answered m [] = []
answered m (c ∷ cs) = answer m c ∷ answered (after m c) cs

-- what the book means after them
abbrev pub reached : Meaning → List Call → Meaning
reached m [] = m
reached m (c ∷ cs) = reached (after m c) cs

-- What a book can hold: a tie (label, from-name, to-name) or a mark fact (mark, name).
pub data Item : Type 0 where
  tie : ℕ → ℕ → ℕ → Item
  mark : ℕ → ℕ → Item

-- the book holds it
abbrev pub there : Meaning → Item → Bool
there m (tie l f t) = m.tied l f t
there m (mark k n) = m.marked k n

-- what a call settles of an item: that it is to be there, that it is not to be there, or nothing
abbrev pub effect : Call → Item → Option Bool
effect (Enter u) (tie l f t) = cond (is_tie u l f t) (Some true) None
effect (Enter u) (mark k n) = None
effect (Strike u) (tie l f t) = cond (is_tie u l f t) (Some false) None
effect (Strike u) (mark k n) = None
effect (SetMark g) (tie l f t) = None
effect (SetMark g) (mark k n) = cond (g.mark == k && g.name == n) (Some true) None
effect (LiftMark g) (tie l f t) = None
effect (LiftMark g) (mark k n) = cond (g.mark == k && g.name == n) (Some false) None

-- no accepted call of the list settles anything of the item
abbrev pub Unaffected : Meaning → List Call → Item → Type 0
Unaffected m [] x = Unit {0}
Unaffected m (c ∷ cs) x = (answer m c ≡ Ok tt → effect c x ≡ None) × Unaffected (after m c) cs x

-- The last accepted call that settles something of a tie or a mark fact decides whether it is there; where
-- none does, it is there exactly when it was. Counts and capacity stay.
pub record LastDecides (m : Meaning) (cs : List Call) (n : Meaning) : Type 0 where
  pub counts_stay : n.counts ≡ m.counts
  pub capacity_stays : n.capacity ≡ m.capacity
  pub unaffected_stays : (x : Item) → Unaffected m cs x → there n x ≡ there m x
  pub last_effect : (x : Item) (before : List Call) (c : Call) (later : List Call) (v : Bool) → cs ≡ before ++ (c ∷ later)
      → answer (reached m before) c ≡ Ok tt → effect c x ≡ Some v → Unaffected (reached m (before ++ (c ∷ []))) later x
      → there n x ≡ v
