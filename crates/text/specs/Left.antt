-- The pieces that are still to be taken.
use Rattle.std.specs.Prelude.{◌≡◌, ℕ, ◌+◌, List, [], ◌∷◌, length, take, drop, ◌≢◌, Some, None, Option, unwrap_or, IfSome, MatchOption}
use Rattle.std.specs.Iterator.Runs.{EveryRun, ItemsMapTo}
use Rattle.text.specs.Text.{pieces, start_of}
use Rattle.text.specs.declared.pieces.Piece.{Piece}
use Rattle.text.specs.declared.pieces.Pieces.{Pieces}

-- the whole text
abbrev pub whole : Pieces → List ℕ
whole p = p.text.now

-- the byte offset at which the next piece begins, where one is left
abbrev pub start : Pieces → ℕ
start p = unwrap_or p.at 0

-- the pieces between the bytes s in the text t, from a byte offset on; none from no offset
abbrev pub pieces_from : ℕ → List ℕ → Option ℕ → List (List ℕ)
pieces_from s t None = []
pieces_from s t (Some at) = pieces s (drop at t)

-- the pieces that are still to be taken
abbrev pub left : Pieces → List (List ℕ)
left p = pieces_from p.part p.text.now p.at

-- the piece stands in the text at its offset
abbrev pub Stands : List ℕ → Piece → Type 0
Stands t w = take (length w.bytes.now) (drop w.at t) ≡ w.bytes.now

-- w was taken from p, and q is left
pub record Took (p : Pieces) (w : Piece) (q : Pieces) : Type 0 where
  pub first : left p ≡ w.bytes.now ∷ left q
  pub place : w.at ≡ start p
  pub stands : Stands (whole p) w
  pub same : whole q ≡ whole p
  pub further : (left q ≢ []) → start q ≡ start p + length w.bytes.now + 1

-- a call of `next` at p gave r and left q
abbrev pub Gives : Pieces → Option Piece → Pieces → Type 0
Gives p r q = MatchOption r ((left p ≡ []) × (q ≡ p)) (λ w. Took p w q)

-- calls of `next` give the pieces that are left, one after another
abbrev pub GivesEach : Type 0
GivesEach = EveryRun Gives (λ run. ItemsMapTo run (λ w. w.bytes.now) (left run.from))

-- and each with the byte offset at which it begins
abbrev pub GivesPlaces : Type 0
GivesPlaces = EveryRun Gives (λ run. (k : ℕ) → IfSome (run.at k) (λ w. w.at ≡ start run.from + start_of k (left run.from)))
