-- Taking the first of the pieces that are left.
use mathlib.Core.List.{cons≢nil}
use Rattle.std.proofs.Common.{◌≡◌, ℕ, zero, suc, ◌+◌, ◌≢◌, List, [], ◌∷◌, length, IfSome, slice_get, Some, sym, ap, ◌∙◌, subst, add-zero, arith}
use Rattle.std.specs.Iterator.{MakesProgress, Yields, at_most}
use Rattle.std.proofs.lemmas.Iterator.{YieldsList}
use Rattle.std.proofs.lemmas.Iterator.Consumers.{YieldsList-from_shown}
use Rattle.std.proofs.iter.runs.Sources.{from_front}
use Rattle.std.proofs.iter.runs.Made.{took, at-is}
use Rattle.text.specs.Text.{start_of}
use Rattle.text.specs.Left.{left, start, Took, Gives, GivesEach, GivesPlaces}
use Rattle.text.specs.declared.pieces.Piece.{Piece}
use Rattle.text.specs.declared.pieces.Pieces.{Pieces}

-- one piece fewer is left
pub goes_on : (p q : Pieces) (w : Piece) → Took p w q → MakesProgress (λ _. Unit {0}) (λ x. at_most (length (left x))) p (Some w) q
goes_on p q w t = record { on = λ _. (tt, tt, omega (arith, ap length t.first)); keeps = tt; rests = λ _. tt }

pub gives_each : GivesEach
gives_each = from_front Gives (λ w. w.bytes.now) left (λ p q h. ap length h.0) (λ p w q t. t.first)

-- each piece that was taken begins where the pieces say
begins : (xs : List Piece) (p q : Pieces) → Yields Gives p xs q → (k : ℕ) → IfSome (slice_get xs k) (λ w. w.at ≡ start p + start_of k (left p))
begins [] p q y k = tt
begins (w ∷ xs) p q y zero = y.1.place ∙ sym (ap (λ ws. start p + start_of 0 ws) y.1.first ∙ add-zero (start p))
begins (w ∷ []) p q y (suc k) = tt
begins (w ∷ v ∷ xs) p q y (suc k) =
    let next = y.0 in
    let some : left next ≢ [] = λ e. cons≢nil (sym y.2.1.first ∙ e) in
    let on : start next + start_of k (left next) ≡ start p + (length w.bytes.now + 1 + start_of k (left next)) = omega (arith, y.1.further some) in
    subst (λ n. IfSome (slice_get (v ∷ xs) k) (λ x. x.at ≡ n)) (on ∙ ap (λ ws. start p + start_of (suc k) ws) (sym y.1.first)) (begins (v ∷ xs) next q y.2 k)

pub gives_places : GivesPlaces
gives_places run _ k = subst (λ o. IfSome o (λ w. w.at ≡ start run.from + start_of k (left run.from))) (sym (at-is run k)) (begins run.items run.from (took run).0 (took run).1 k)

pub YieldsList-from_pieces : {p : Pieces} (ws : List (List ℕ)) → left p ≡ ws → YieldsList Gives (λ w. w.bytes.now) p ws
YieldsList-from_pieces {p} ws is = subst (YieldsList Gives (λ w. w.bytes.now) p) is (YieldsList-from_shown Gives (λ w. w.bytes.now) left (λ q r h. ap length h.0) (λ q w r t. t.first) p)
