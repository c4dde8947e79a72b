-- The words of a text, one after another.
use Rattle.std.proofs.Common.{◌≡◌, ℕ, suc, ◌+◌, ◌<◌, ◌≤◌, List, [], ◌∷◌, ◌++◌, map, length, get_or, take, Some, None, Option, Result, sym, refl, ap, ◌∙◌, subst, arith, length-append, MatchOption}
use Rattle.std.proofs.lemmas.List.{nil_from_length, length-map}
use Rattle.std.proofs.Math.Seq.{take-append_seam, get_or-append_seam}
use Rattle.std.specs.Iterator.{Yields, SkipsThenYields}
use denote.Ref.{Bor}
use Rattle.text.specs.Text.{words as text_words, start_of}
use Rattle.text.specs.Left.{left, start, Took, Gives}
use Rattle.text.specs.declared.pieces.Piece.{Piece}
use Rattle.text.specs.declared.pieces.Pieces.{Pieces}
use Rattle.text.specs.declared.word.WordFault.{WordFault}
use Rattle.roll.specs.declared.roll.Roll.{Roll}
use Rattle.arrayvec.specs.ArrayVec.{ArrayVec, array_vec_len}
use Rattle.policy_words.specs.declared.word.Word.{Word}
use Rattle.policy_reader.specs.Spell.{Spells}
use Rattle.policy_reader.specs.Told.{EachSpells}
use Rattle.policy_reader.specs.Found.{Finds, Stops}
use Rattle.policy_reader.specs.declared.fault.Cause.{Cause}

pub each_push : (r : Roll) (vs : List Word) (bs : List (List ℕ)) (w : Word) (b : List ℕ) → EachSpells r vs bs → Spells r w b → EachSpells r (vs ++ w ∷ []) (bs ++ b ∷ [])
each_push r [] [] w b h s = (s, tt)
each_push r [] (x ∷ bs) w b h s = absurd h
each_push r (v ∷ vs) [] w b h s = absurd h
each_push r (v ∷ vs) (x ∷ bs) w b h s = (h.0, each_push r vs bs w b h.1 s)

-- the bytes of pieces
abbrev pub bytes : List Piece → List (List ℕ)
bytes xs = map (λ w. w.bytes.now) xs

-- the pieces xs were taken from p, and q is left
pub record Taken (p : Pieces) (xs : List Piece) (q : Pieces) : Type 0 where
  pub all : left p ≡ bytes xs ++ left q
  pub starts : (left q ≡ [] → ⊥) → start q ≡ start p + start_of (length xs) (left p)

start_zero : (ws : List (List ℕ)) → start_of 0 ws ≡ 0
start_zero [] = refl
start_zero (w ∷ ws) = refl

pub taken : (xs : List Piece) (p q : Pieces) → Yields Gives p xs q → Taken p xs q
taken [] p q h = subst (Taken p []) h record { all = refl; starts = λ _. omega (arith, start_zero (left p)) }
taken (x ∷ xs) p q h =
    let r = taken xs h.0 q h.2 in
    let t : Took p x h.0 = h.1 in
    let next : start_of (suc (length xs)) (left p) ≡ length x.bytes.now + 1 + start_of (length xs) (left h.0) = ap (start_of (suc (length xs))) t.first in
    record {
      all = t.first ∙ ap (λ l. x.bytes.now ∷ l) r.all;
      starts = λ some.
          let further = t.further (λ e. some (nil_from_length (left q) (omega (arith, length-append (bytes xs) (left q), ap length (sym e ∙ r.all))))) in
          omega (arith, r.starts some, further, next);
    }

-- the words ws of a text, of which the pieces xs were taken and q is left
module _ (ws : List (List ℕ)) (p q : Pieces) (xs : List Piece) (whole : left p ≡ ws) (begins : start p ≡ 0) (ran : Yields Gives p xs q) where
  abbrev n : ℕ
  n = length xs

  parts : ws ≡ bytes xs ++ left q
  parts = sym whole ∙ (taken xs p q ran).all

  long : length ws ≡ n + length (left q)
  long = omega (arith, ap length parts, length-append (bytes xs) (left q), length-map xs (λ w. w.bytes.now))

  pub front : take n ws ≡ bytes xs
  front = ap (take n) parts ∙ ap (λ k. take k (bytes xs ++ left q)) (sym (length-map xs (λ w. w.bytes.now))) ∙ take-append_seam (bytes xs) (left q)

  pub over : left q ≡ [] → n ≡ length ws
  over e = omega (arith, long, ap length e)

  -- the word w comes next
  module _ (w : Piece) (u : Pieces) (t : Took q w u) where
    pub there : n < length ws
    there = omega (arith, long, ap length t.first)

    pub word : get_or ws n [] ≡ w.bytes.now
    word = ap (λ l. get_or l n []) (parts ∙ ap (λ l. bytes xs ++ l) t.first) ∙ ap (λ k. get_or (bytes xs ++ w.bytes.now ∷ left u) k []) (sym (length-map xs (λ w. w.bytes.now))) ∙ get_or-append_seam (bytes xs) w.bytes.now (left u) []

    pub place : w.at ≡ start_of n ws
    place =
        let s : start q ≡ start p + start_of n (left p) = (taken xs p q ran).starts (λ e. absurd (omega (arith, ap length (sym t.first ∙ e)))) in
        let e : start_of n (left p) ≡ start_of n ws = ap (start_of n) whole in
        omega (arith, t.place, s, e, begins)

-- the words vs that the pieces spell are what is found in the text, where it stops as it does after them
pub found : (r : Roll) (t : Bor (List ℕ)) (vs : ArrayVec Word) (stop : Result (Option ℕ) (WordFault Cause)) (p q : Pieces) (xs : List Piece) → left p ≡ text_words t.now → start p ≡ 0 → Yields Gives p xs q → array_vec_len vs ≤ 64 → array_vec_len vs ≡ length xs → EachSpells r vs.items (bytes xs) → Stops r (text_words t.now) (length xs) stop → Finds r record { text = t; words = vs; stop = stop }
found r t vs stop p q xs whole begins ran few as_many spelled stops =
    let ws = text_words t.now in
    let e = long ws p q xs whole begins ran in
    record {
      few = few;
      within = omega (arith, as_many, e);
      spelled = subst (EachSpells r vs.items) (sym (front ws p q xs whole begins ran) ∙ ap (λ n. take n ws) (sym as_many)) spelled;
      stops = subst (λ n. Stops r ws n stop) (sym as_many) stops;
    }

-- the word that comes after n others
pub nth_place : (ws : List (List ℕ)) (p q : Pieces) (n : ℕ) (r : Option Piece) → left p ≡ ws → start p ≡ 0 → SkipsThenYields Gives p n r q → n < length ws → MatchOption r ⊥ (λ w. w.at ≡ start_of n ws)
nth_place ws p q n None whole begins h lt = omega (arith, lt, h.2, over ws p h.1.0 h.0 whole begins h.1.1 h.1.2.0)
nth_place ws p q n (Some w) whole begins h lt = place ws p h.1.0 h.0 whole begins h.1.1 w q h.1.2 ∙ ap (λ k. start_of k ws) h.2
