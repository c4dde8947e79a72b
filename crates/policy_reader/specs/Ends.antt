-- How the words that were found and what comes after them make the answer.
use Rattle.std.specs.Prelude.{◌≡◌, ℕ, ◌<◌, length, Some, None, Option, Ok, Err, Result, MatchResult}
use Rattle.text.specs.Text.{words as text_words, start_of}
use Rattle.text.specs.declared.word.WordFault.{WordFault}
use Rattle.policy_words.specs.declared.shape.ShapeFault.{ShapeFault}
use Rattle.policy_words.specs.declared.shape.ShapeFault.TheVariants as S
use Rattle.policy.specs.declared.fault.WordsFault.{WordsFault}
use Rattle.policy.specs.declared.fault.WordsFault.TheVariants as F
use Rattle.policy.specs.declared.policy.Policy.{Policy}
use Rattle.policy_reader.specs.declared.fault.Cause.{Cause}
use Rattle.policy_reader.specs.declared.fault.PolicyFault.{PolicyFault}
use Rattle.policy_reader.specs.declared.fault.PolicyFault.TheVariants as P
use Rattle.policy_reader.specs.declared.found.Found.{Found}

-- after a finished formula the text has to be over
abbrev pub after_fault : Result (Option ℕ) (WordFault Cause) → Result (Unit {0}) PolicyFault
after_fault (Ok None) = Ok tt
after_fault (Ok (Some at)) = Err (P.After at)
after_fault (Err f) = Err (P.After f.at)

-- why a formula is not finished, in a text of n bytes
abbrev pub short_fault : ℕ → Result (Option ℕ) (WordFault Cause) → PolicyFault
short_fault n (Ok None) = P.Short n
short_fault n (Ok (Some at)) = P.TooMany at
short_fault n (Err f) = P.Word f

-- the fault P at the byte at which word k of the text begins, where it has such a word
abbrev pub FaultAt : Found → ℕ → (ℕ → PolicyFault) → Result Policy PolicyFault → Type 0
FaultAt x k P res = k < length (text_words x.text.now) → res ≡ Err (P (start_of k (text_words x.text.now)))

-- the answer for words that make no formula
abbrev pub ShapeRefused : Found → ShapeFault → Result Policy PolicyFault → Type 0
ShapeRefused x (S.Kind k) res = FaultAt x k P.Kind res
ShapeRefused x S.Short res = res ≡ Err (short_fault (length x.text.now) x.stop)
ShapeRefused x (S.After k) res = FaultAt x k P.After res
ShapeRefused x S.TooMany res = Unit {0}

-- the answer for words that make no policy
abbrev pub Refused : Found → WordsFault → Result Policy PolicyFault → Type 0
Refused x (F.Shape s) res = ShapeRefused x s res
Refused x (F.Number k) res = Unit {0}
Refused x (F.Loose k) res = MatchResult (after_fault x.stop) (λ _. FaultAt x k P.Loose res) (λ e. res ≡ Err e)
Refused x (F.Unanchored k) res = MatchResult (after_fault x.stop) (λ _. FaultAt x k P.Unanchored res) (λ e. res ≡ Err e)
