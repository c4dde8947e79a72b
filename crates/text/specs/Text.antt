-- A text as the pieces between the bytes that part it.
use Rattle.std.specs.Prelude.{◌≡◌, ℕ, zero, suc, ◌+◌, List, [], ◌∷◌, length, take, drop, ◌==◌, ◌≢◌, All, slice_index_or}
use Rattle.std.specs.List.{slice_split, join_with_byte}

-- the pieces between the bytes s: one more than the text has of them
abbrev pub pieces : ℕ → List ℕ → List (List ℕ)
pieces s t = slice_split (λ b. b == s) t

-- the words of a text, which one space (byte 32) parts: an empty text has none
abbrev pub words : List ℕ → List (List ℕ)
words [] = []
words (b ∷ bs) = pieces 32 (b ∷ bs)

-- the byte s is not in w
abbrev pub Lacks : ℕ → List ℕ → Type 0
Lacks s w = All (λ b. b ≢ s) w

-- ws are what the bytes s part in the text t: at least one piece
pub record Cut (s : ℕ) (t : List ℕ) (ws : List (List ℕ)) : Type 0 where
  pub join : join_with_byte s ws ≡ t
  pub lack : All (Lacks s) ws
  pub some : ws ≢ []

-- ws are the words of the text t: never an empty word alone
pub record WordCut (t : List ℕ) (ws : List (List ℕ)) : Type 0 where
  pub join : join_with_byte 32 ws ≡ t
  pub lack : All (Lacks 32) ws
  pub some : ws ≢ [] ∷ []

-- where piece k begins: after the pieces before it, each with its parting byte
abbrev pub start_of : ℕ → List (List ℕ) → ℕ
start_of k [] = 0
start_of zero (w ∷ ws) = 0
start_of (suc k) (w ∷ ws) = length w + 1 + start_of k ws

-- piece k of ws stands in the text t where it begins
abbrev pub StandsAt : ℕ → List (List ℕ) → List ℕ → Type 0
StandsAt k ws t = take (length (slice_index_or ws k [])) (drop (start_of k ws) t) ≡ slice_index_or ws k []
