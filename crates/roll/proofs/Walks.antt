-- Walking a list of words.
use Rattle.std.proofs.Common.{◌≡◌, ℕ, ◌<◌, Bool, true, false, ◌≢◌, List, [], length, get_or, Some, None, Decides, HoldsAt, MatchBool, All, take, bytes_eq, sym, refl, ap, ◌∙◌, subst, inl, inr, arith}
use Rattle.std.specs.List.{slice_get, position_or_len, enumerate_from, AllWithin}
use Rattle.std.proofs.lemmas.List.{get_or_default, get_or-take, length-take}
use Rattle.std.proofs.lemmas.List.FromFn.{length-enumerate_from, get_or-enumerate_from}
use Rattle.std.proofs.lemmas.List.Quantifiers.{position-Some}
use Rattle.std.proofs.lemmas.List.Sums.{fails_before_first, position_or_len_is}
use Rattle.std.proofs.lemmas.Option.{none-some, slice_get-get_or, slice_get_within, get_or_from_slice_get}
use Rattle.std.proofs.lemmas.Slice.Eq.{bytes_eq-Decides}
use Rattle.std.proofs.lemmas.Bool.{cond-true, lt-ltb, cases_lt, both_ways, false_from_ne_true, false≢true}
use Rattle.std.specs.Iterator.Adapters.{take_source, take_count, take_steps}
use Rattle.std.proofs.lemmas.Iterator.{YieldsList, YieldsList-from_take}
use Rattle.std.proofs.lemmas.Iterator.Consumers.{YieldsList-at}
use Rattle.text.specs.Text.{words}
use Rattle.text.specs.Left.{left, Gives}
use Rattle.text.specs.declared.pieces.Pieces.{Pieces}
use Rattle.text.proofs.Takes.{YieldsList-from_pieces}
use Rattle.roll.specs.Lists.{Distinct, place_of}

-- a walk over the first n words of a text
pub YieldsList-from_words : {p : Pieces} {s : _} (n : ℕ) (t : List ℕ) → left p ≡ words t → take_source s ≡ p → take_count s ≡ n → YieldsList (take_steps Gives) (λ w. w.bytes.now) s (take n (words t))
YieldsList-from_words n t is source count = YieldsList-from_take n (YieldsList-at source (YieldsList-from_pieces (words t) is)) count

-- a word that has no place is not there
pub place_none : (w : List ℕ) (l : List (List ℕ)) → place_of w l ≡ None → (j : ℕ) → j < length l → get_or l j [] ≢ w
place_none w l e j lt q =
    let is : List ℕ → Bool = λ v. bytes_eq v w in
    elim (cases_lt (position_or_len is l) (length l)) [
      | inl le ↦ none-some _ (sym e ∙ cond-true _ _ _ (lt-ltb _ _ le))
      | inr ge ↦ both_ways (bytes_eq (get_or l j []) w) (fails_before_first is l j [] (omega arith)) ((bytes_eq-Decides (get_or l j []) w).1 q)
    ]

-- the word that has the place d is the one at d, and no word before it is that word
pub place_word : (l : List (List ℕ)) (w : List ℕ) (d : ℕ) → place_of w l ≡ Some d → (d < length l) × (get_or l d [] ≡ w)
place_word l w d e = let p = position-Some (λ v. bytes_eq v w) l d [] e in (p.0, (bytes_eq-Decides (get_or l d []) w).0 p.1)

pub place_first : (l : List (List ℕ)) (w : List ℕ) (d k : ℕ) → place_of w l ≡ Some d → k < d → get_or l k [] ≢ w
place_first l w d k e lt q = both_ways (bytes_eq (get_or l k []) w) ((position-Some (λ v. bytes_eq v w) l d [] e).2 k lt) ((bytes_eq-Decides (get_or l k []) w).1 q)

-- in a list without a word twice, the word at d has the place d
pub place_of_lem : (l : List (List ℕ)) (d : ℕ) → Distinct l → d < length l → place_of (get_or l d []) l ≡ Some d
place_of_lem l d apart lt =
    let w = get_or l d [] in
    let is : List ℕ → Bool = λ v. bytes_eq v w in
    let here : position_or_len is l ≡ d = position_or_len_is is l d [] (omega arith) (λ k less. false_from_ne_true _ (λ t. apart k d [] less lt ((bytes_eq-Decides (get_or l k []) w).0 t))) (λ _. (bytes_eq-Decides w w).1 refl) in
    let less : position_or_len is l < length l = omega arith in
    cond-true _ _ _ (lt-ltb _ _ less) ∙ ap Some here

-- the word that stands at a place
pub word_here : (n : ℕ) (v : List ℕ) (all : List (List ℕ)) → n < length all → get_or all n [] ≡ v → slice_get all n ≡ Some v
word_here n v all lt e = slice_get-get_or all n [] lt ∙ ap Some e

pub word_there : (n : ℕ) (v : List ℕ) (all : List (List ℕ)) → slice_get all n ≡ Some v → (n < length all) × (get_or all n [] ≡ v)
word_there n v all e = (slice_get_within all n v e, get_or_from_slice_get all n v [] e)

pair_at : (l : List (List ℕ)) (k : ℕ) → k < length l → get_or (enumerate_from 0 l) k (0, []) ≡ (k, get_or l k [])
pair_at l k lt = get_or-enumerate_from 0 l k (0, []) lt ∙ ap (λ n. (n, get_or l k [])) (omega arith)

-- what a search that stops at the first word that is w tells: whether all words are others
pub all_others : (w : List ℕ) (ws : List (List ℕ)) (r : Bool) → MatchBool r (AllWithin (λ v. v ≢ w) ws 0 (length ws)) ((k : ℕ) × (k < length ws) × HoldsAt (λ v. v ≡ w) ws k) → Decides r (All (λ v. v ≢ w) ws)
all_others w ws true h = (λ _ k d lt. h k d (omega arith) lt, λ _. refl)
all_others w ws false h = (λ e. absurd (false≢true e), λ none. absurd (none h.0 [] h.1 (h.2 [])))

-- the word of the pair is none of the words before the place of the pair
abbrev pub New : List (List ℕ) → ℕ × List ℕ → Type 0
New all p = All (λ v. v ≢ p.1) (take p.0 all)

-- none of the first n words comes twice where each is new, and only there
pub each_new : (n : ℕ) (all : List (List ℕ)) (r : Bool)
    → MatchBool r (AllWithin (New all) (enumerate_from 0 (take n all)) 0 (length (enumerate_from 0 (take n all)))) ((k : ℕ) × (k < length (enumerate_from 0 (take n all))) × HoldsAt (λ p. New all p → ⊥) (enumerate_from 0 (take n all)) k)
    → Decides r (Distinct (take n all))
each_new n all true h =
    let ws = take n all in
    let at : (k : ℕ) → k < length ws → New all (k, get_or ws k []) =
    λ k lt. subst (New all) (pair_at ws k lt) (h k (0, []) (omega arith) (omega (arith, length-enumerate_from 0 ws))) in (
      λ _ i j d lt jl e. at j jl i d (omega (arith, lt, jl, length-take j all, length-take n all)) (get_or-take j all i d lt ∙ sym (get_or-take n all i d (omega (arith, lt, jl, length-take n all))) ∙ e ∙ get_or_default ws j d [] jl),
      λ _. refl,
    )
each_new n all false h = (
  λ e. absurd (false≢true e),
  λ apart.
      let ws = take n all in
      let lt : h.0 < length ws = omega (arith, h.1, length-enumerate_from 0 ws) in
      absurd (h.2 (0, []) (subst (New all) (sym (pair_at ws h.0 lt)) (λ i d il e.
      let less : i < h.0 = omega (arith, il, length-take h.0 all) in
      apart i h.0 d less lt (get_or-take n all i d (omega (arith, less, lt, length-take n all)) ∙ sym (get_or-take h.0 all i d less) ∙ e ∙ get_or_default ws h.0 [] d lt)))),
)
