-- What a request at the console is replied, by what the book means.
use Rattle.std.specs.Prelude.{◌≡◌, ℕ, Bool, Ok, Err, Option, Result}
use Rattle.book.specs.declared.refusal.RangeRefusal.{RangeRefusal}
use Rattle.book.specs.declared.refusal.EnterRefusal.{EnterRefusal}
use Rattle.book.specs.declared.refusal.EnterRefusal.TheVariants.{Range}
use Rattle.book.specs.Meaning.{Meaning, ties_of, marks_of}
use Rattle.book.specs.Calls.{TieTold, MarkTold, Next}
use Rattle.runs.specs.Runs.{answer, after}
use Rattle.requests.specs.declared.request.Request.{Request}
use Rattle.requests.specs.declared.request.Request.TheVariants.{Alter, HasTie, HasMark, Next as AskNext, Tally as AskTally}
use Rattle.requests.specs.declared.request.Reply.{Reply}
use Rattle.requests.specs.declared.request.Reply.TheVariants.{Done, Told, Name, Tally}

-- the reply to an altering call, from its answer
abbrev pub done : Result (Unit {0}) EnterRefusal → Result Reply EnterRefusal
done (Ok u) = Ok Done
done (Err e) = Err e

-- the reply to a yes or no question, from its answer
abbrev pub told : Result Bool RangeRefusal → Result Reply EnterRefusal
told (Ok b) = Ok (Told b)
told (Err e) = Err (Range e)

-- the reply to the question for a name, from its answer
abbrev pub named : Result (Option ℕ) RangeRefusal → Result Reply EnterRefusal
named (Ok n) = Ok (Name n)
named (Err e) = Err (Range e)

-- what a request is replied, or why it is refused
abbrev pub Replies : Meaning → Request → Result Reply EnterRefusal → Type 0
Replies m (Alter c) r = r ≡ done (answer m c)
Replies m (HasTie t) r = (a : Result Bool RangeRefusal) × TieTold m t a × (r ≡ told a)
Replies m (HasMark f) r = (a : Result Bool RangeRefusal) × MarkTold m f a × (r ≡ told a)
Replies m (AskNext of at) r = (a : Result (Option ℕ) RangeRefusal) × Next m of at a × (r ≡ named a)
Replies m AskTally r = r ≡ Ok (Tally (record { counts = m.counts; ties = ties_of m; marked = marks_of m; capacity = m.capacity }))

-- what the book means after it: only an altering call can alter it
abbrev pub meaning_after : Meaning → Request → Meaning
meaning_after m (Alter c) = after m c
meaning_after m (HasTie t) = m
meaning_after m (HasMark f) = m
meaning_after m (AskNext of at) = m
meaning_after m AskTally = m
