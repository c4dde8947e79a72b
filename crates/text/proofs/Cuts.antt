-- Cutting a text at a byte.
use mathlib.Core.List.{cons≢nil}
use Rattle.std.proofs.Common.{◌≡◌, ℕ, zero, suc, ◌+◌, ◌<◌, Bool, false, eqb, ◌≢◌, List, [], ◌∷◌, ◌++◌, length, get_or, take, drop, All, Some, None, position, sym, refl, ap, ◌∙◌, inl, inr, arith}
use Rattle.std.specs.List.{onto_first, join_with_byte, position_or_len}
use Rattle.std.proofs.lemmas.List.{take_all, take-append-le, drop-drop, drop_at}
use Rattle.std.proofs.lemmas.List.Elements.{All-nil, All-cons, All-head, All-tail, All-from_get_or}
use Rattle.std.proofs.lemmas.List.Sums.{fails_before_first}
use Rattle.std.proofs.lemmas.List.Splits.{slice_split_none, slice_split_at, slice_split_first, length-slice_split, join_with_byte-slice_split}
use Rattle.std.proofs.lemmas.Bool.{ne_eqb, eq-eqb, eqb-false, lt-ltb, le-ltb, cond-true, cond-false, cond_both, cases_lt}
use Rattle.text.specs.Text.{pieces, words, Lacks, Cut, WordCut, start_of, StandsAt}

-- the byte s, as a test
abbrev is : ℕ → ℕ → Bool
is s b = eqb b s

-- the first piece ends where the byte s comes first
pub cut_at : (s : ℕ) (text : List ℕ) (end : ℕ) → position (is s) text ≡ Some end → pieces s text ≡ take end text ∷ pieces s (drop (end + 1) text)
cut_at s text end e =
    elim (cases_lt (position_or_len (is s) text) (length text)) [
      | inl lt ↦
          let found : Some (position_or_len (is s) text) ≡ Some end = sym (cond-true _ _ _ (lt-ltb _ _ lt)) ∙ e in
          let at : position_or_len (is s) text ≡ end = cc in
          slice_split_first (is s) text 0 lt ∙ ap (λ k. take k text ∷ pieces s (drop (k + 1) text)) at
      | inr ge ↦ let none : None ≡ Some end = sym (cond-false _ _ _ (le-ltb _ _ ge)) ∙ e in absurd cc
    ]

-- and the text is the one piece where it does not come
pub cut_last : (s : ℕ) (text : List ℕ) → position (is s) text ≡ None → pieces s text ≡ text ∷ []
cut_last s text e =
    elim (cases_lt (position_or_len (is s) text) (length text)) [
      | inl lt ↦ let found : Some (position_or_len (is s) text) ≡ None = sym (cond-true _ _ _ (lt-ltb _ _ lt)) ∙ e in absurd cc
      | inr ge ↦ slice_split_none (is s) text (All-from_get_or (λ b. is s b ≡ false) text 0 (λ k lt. fails_before_first (is s) text k 0 (omega arith)))
    ]

-- what is taken stands at the front
pub front : (n : ℕ) (t : List ℕ) → take (length (take n t)) t ≡ take n t
front zero t = refl
front (suc n) [] = refl
front (suc n) (b ∷ bs) = ap (λ l. b ∷ l) (front n bs)

pub some_piece : (s : ℕ) (t : List ℕ) → pieces s t ≢ []
some_piece s t e = omega (arith, length-slice_split (is s) t, ap length e)

lacks : (s : ℕ) (w : List ℕ) → Lacks s w → All (λ b. is s b ≡ false) w
lacks s w h k d lt = ne_eqb _ s (h k d lt)

-- what is cut where it was joined is as it was
pub pieces-joined : (s : ℕ) (w : List ℕ) (ws : List (List ℕ)) → All (Lacks s) (w ∷ ws) → pieces s (join_with_byte s (w ∷ ws)) ≡ w ∷ ws
pieces-joined s w [] h = slice_split_none (is s) w (lacks s w (All-head (Lacks s) w [] h))
pieces-joined s w (v ∷ ws) h =
    slice_split_at (is s) w s (join_with_byte s (v ∷ ws)) (lacks s w (All-head (Lacks s) w (v ∷ ws) h)) (eq-eqb s s refl) ∙ ap (λ l. w ∷ l) (pieces-joined s v ws (All-tail (Lacks s) w (v ∷ ws) h))

lacks_onto : (s b : ℕ) (ws : List (List ℕ)) → b ≢ s → All (Lacks s) ws → All (Lacks s) (onto_first b ws)
lacks_onto s b [] n h = All-cons (Lacks s) (b ∷ []) [] (All-cons (λ x. x ≢ s) b [] n (All-nil (λ x. x ≢ s))) h
lacks_onto s b (w ∷ ws) n h = All-cons (Lacks s) (b ∷ w) ws (All-cons (λ x. x ≢ s) b w n (All-head (Lacks s) w ws h)) (All-tail (Lacks s) w ws h)

pub pieces_lack : (s : ℕ) (t : List ℕ) → All (Lacks s) (pieces s t)
pieces_lack s [] = All-cons (Lacks s) [] [] (All-nil (λ x. x ≢ s)) (All-nil (Lacks s))
pieces_lack s (b ∷ bs) =
    cond_both (is s b) _ _ (All (Lacks s)) (λ _. All-cons (Lacks s) [] (pieces s bs) (All-nil (λ x. x ≢ s)) (pieces_lack s bs)) (λ e. lacks_onto s b (pieces s bs) (eqb-false b s e) (pieces_lack s bs))

-- the pieces are what the byte parts, and nothing else is
pub cut_pieces : (s : ℕ) (t : List ℕ) → Cut s t (pieces s t)
cut_pieces s t = record { join = join_with_byte-slice_split s t; lack = pieces_lack s t; some = some_piece s t }

pub cut_only : (s : ℕ) (t : List ℕ) (ws : List (List ℕ)) → Cut s t ws → ws ≡ pieces s t
cut_only s t [] h = absurd (h.some refl)
cut_only s t (w ∷ ws) h = sym (pieces-joined s w ws h.lack) ∙ ap (pieces s) h.join

-- the same of words
pub cut_words : (t : List ℕ) → WordCut t (words t)
cut_words [] = record { join = refl; lack = All-nil (Lacks 32); some = λ e. cc }
cut_words (b ∷ bs) = let c = cut_pieces 32 (b ∷ bs) in record { join = c.join; lack = c.lack; some = λ e. cons≢nil (sym c.join ∙ ap (join_with_byte 32) e) }

some_words : (t : List ℕ) → t ≢ [] → words t ≡ pieces 32 t
some_words [] h = absurd (h refl)
some_words (b ∷ bs) h = refl

some_joined : (w : List ℕ) (ws : List (List ℕ)) → w ∷ ws ≢ [] ∷ [] → join_with_byte 32 (w ∷ ws) ≢ []
some_joined [] [] h e = h refl
some_joined [] (v ∷ ws) h e = cons≢nil e
some_joined (b ∷ w) [] h e = cons≢nil e
some_joined (b ∷ w) (v ∷ ws) h e = cons≢nil e

pub words_only : (t : List ℕ) (ws : List (List ℕ)) → WordCut t ws → ws ≡ words t
words_only t [] h = ap words h.join
words_only t (w ∷ ws) h =
    sym (pieces-joined 32 w ws h.lack)
    ∙ ap (pieces 32) h.join
    ∙ sym (some_words t (λ e. some_joined w ws h.some (h.join ∙ e)))

-- each piece stands in the joined text where it begins
take_front : (w t : List ℕ) → take (length w) (w ++ t) ≡ w
take_front w t = take-append-le (length w) w t (omega arith) ∙ take_all (length w) w (omega arith)

drop_front : (s : ℕ) (w t : List ℕ) → drop (length w + 1) (w ++ s ∷ t) ≡ t
drop_front s w t = sym (drop-drop 1 (length w) (w ++ s ∷ t)) ∙ ap (drop 1) (drop_at w (s ∷ t) (length w) refl)

joined_stands : (s : ℕ) (ws : List (List ℕ)) (k : ℕ) → k < length ws → StandsAt k ws (join_with_byte s ws)
joined_stands s [] k lt = absurd (omega arith)
joined_stands s (w ∷ []) zero lt = take_all (length w) w (omega arith)
joined_stands s (w ∷ v ∷ ws) zero lt = take_front w (s ∷ join_with_byte s (v ∷ ws))
joined_stands s (w ∷ []) (suc k) lt = absurd (omega arith)
joined_stands s (w ∷ v ∷ ws) (suc k) lt =
    ap (take (length (get_or (v ∷ ws) k []))) (sym (drop-drop (start_of k (v ∷ ws)) (length w + 1) _) ∙ ap (drop (start_of k (v ∷ ws))) (drop_front s w (join_with_byte s (v ∷ ws))))
    ∙ joined_stands s (v ∷ ws) k (omega arith)

stands : (s : ℕ) (t : List ℕ) (ws : List (List ℕ)) → join_with_byte s ws ≡ t → (k : ℕ) → k < length ws → StandsAt k ws t
stands s t ws e k lt = ap (λ x. take (length (get_or ws k [])) (drop (start_of k ws) x)) (sym e) ∙ joined_stands s ws k lt

pub pieces_stand : (s : ℕ) (t : List ℕ) (k : ℕ) → k < length (pieces s t) → StandsAt k (pieces s t) t
pieces_stand s t = stands s t (pieces s t) (cut_pieces s t).join

pub words_stand : (t : List ℕ) (k : ℕ) → k < length (words t) → StandsAt k (words t) t
words_stand t = stands 32 t (words t) (cut_words t).join
