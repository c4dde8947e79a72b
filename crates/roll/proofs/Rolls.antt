-- Faults of rolls, and what a roll tells of its words.
use Rattle.std.proofs.Common.{◌≡◌, ℕ, ◌<◌, ◌≤◌, List as Seq, length, Some, None, Option, sym, refl, ap, ◌∙◌, subst, inl, inr, MatchOption, option_map}
use Rattle.std.specs.List.{slice_get}
use Rattle.std.proofs.lemmas.Bool.{cases_lt}
use Rattle.std.proofs.lemmas.Option.{none-some}
use Rattle.text.specs.Text.{words}
use Rattle.roll.specs.Lists.{numbered, place_of, Distinct, Good, ListTold, list_fault}
use Rattle.roll.specs.Rolls.{Sound, text_of, words_of, number_of, word_of, RollTold, or_later, roll_fault}
use Rattle.roll.specs.declared.list.List.{List}
use Rattle.roll.specs.declared.list.List.TheVariants.{Names, Labels, Marks}
use Rattle.roll.specs.declared.list.ListFault.{ListFault}
use Rattle.roll.specs.declared.roll.Roll.{Roll}
use Rattle.roll.specs.declared.roll.RollFault.{RollFault}
use Rattle.roll.proofs.Walks.{place_none, place_word, place_of_lem, word_here, word_there}
use Rattle.roll.proofs.Faults.{list_told, list_only, numbered_all}

told_in_turn : (n l m : Seq ℕ) (a b c : Option ListFault) → ListTold Names (words n) a → ListTold Labels (words l) b → ListTold Marks (words m) c → RollTold n l m (or_later Names a (or_later Labels b (or_later Marks c None)))
told_in_turn n l m (Some f) b c x y z = x
told_in_turn n l m None (Some f) c x y z = (x, y)
told_in_turn n l m None None (Some f) x y z = (x, y, z)
told_in_turn n l m None None None x y z = (x, y, z)

roll_told : (n l m : Seq ℕ) → RollTold n l m (roll_fault n l m)
roll_told n l m = told_in_turn n l m (list_fault Names (words n)) (list_fault Labels (words l)) (list_fault Marks (words m)) (list_told Names (words n)) (list_told Labels (words l)) (list_told Marks (words m))

-- the function's answer from those of the three lists
in_turn : (n l m : Seq ℕ) (a b c : Option ListFault) → a ≡ list_fault Names (words n) → b ≡ list_fault Labels (words l) → c ≡ list_fault Marks (words m) → or_later Names a (or_later Labels b (or_later Marks c None)) ≡ roll_fault n l m
in_turn n l m a b c x y z = cc

only_at : (n l m : Seq ℕ) (list : List) (f : ListFault) → RollTold n l m (Some record { list = list; fault = f }) → Some record { list = list; fault = f } ≡ roll_fault n l m
only_at n l m Names f h = in_turn n l m (Some f) _ _ (list_only Names (words n) (Some f) h) refl refl
only_at n l m Labels f h = in_turn n l m None (Some f) _ (list_only Names (words n) None h.0) (list_only Labels (words l) (Some f) h.1) refl
only_at n l m Marks f h = in_turn n l m None None (Some f) (list_only Names (words n) None h.0) (list_only Labels (words l) None h.1) (list_only Marks (words m) (Some f) h.2)

roll_only : (n l m : Seq ℕ) (x : Option RollFault) → RollTold n l m x → x ≡ roll_fault n l m
roll_only n l m None h = in_turn n l m None None None (list_only Names (words n) None h.0) (list_only Labels (words l) None h.1) (list_only Marks (words m) None h.2)
roll_only n l m (Some f) h = only_at n l m f.list f.fault h

-- what is told is the function's answer, and nothing else is
pub roll_as_told : (n l m : Seq ℕ) (x : Option RollFault) → x ≡ roll_fault n l m → RollTold n l m x × ((y : Option RollFault) → RollTold n l m y → y ≡ x)
roll_as_told n l m x e = (subst (RollTold n l m) (sym e) (roll_told n l m), λ y h. roll_only n l m y h ∙ sym e)

pub roll_told_only : (n l m : Seq ℕ) (x y : Option RollFault) → x ≡ roll_fault n l m → RollTold n l m y → y ≡ x
roll_told_only n l m x y e h = (roll_as_told n l m x e).1 y h

-- each text of a roll makes its list
good_by : (list : List) (ws : Seq (Seq ℕ)) → list_fault list ws ≡ None → Good list ws
good_by list ws e = subst (ListTold list ws) e (list_told list ws)

pub sound : (r : Roll) → Sound r
sound r Names = good_by Names _ r.names_fine
sound r Labels = good_by Labels _ r.labels_fine
sound r Marks = good_by Marks _ r.marks_fine

-- numbers and words undo each other
pub number_back : (r : Roll) (list : List) (w : Seq ℕ) (o : Option ℕ) → o ≡ number_of r list w → MatchOption o ((n : ℕ) → word_of r list n ≡ Some w → ⊥) (λ n. word_of r list n ≡ Some w)
number_back r list w None e = λ n h. let t = word_there n w (numbered (text_of r list)) h in place_none w (numbered (text_of r list)) (sym e) n t.0 t.1
number_back r list w (Some n) e = let p = place_word (numbered (text_of r list)) w n (sym e) in word_here n w (numbered (text_of r list)) p.0 p.1

all_numbered : (r : Roll) (list : List) → numbered (text_of r list) ≡ words_of r list
all_numbered r list = numbered_all list (text_of r list) (sound r list).within

pub number_again : (r : Roll) (list : List) (w : Seq ℕ) (n : ℕ) → word_of r list n ≡ Some w → number_of r list w ≡ Some n
number_again r list w n e =
    let all = numbered (text_of r list) in
    let t = word_there n w all e in
    ap (λ v. place_of v all) (sym t.1) ∙ place_of_lem all n (subst Distinct (sym (all_numbered r list)) (sound r list).apart) t.0

pub word_number : (r : Roll) (list : List) (n : ℕ) (o : Option (Seq ℕ)) → o ≡ word_of r list n → MatchOption o (length (words_of r list) ≤ n) (λ w. (n < length (words_of r list)) × (number_of r list w ≡ Some n))
word_number r list n None e =
    elim (cases_lt n (length (words_of r list))) [
      | inr ge ↦ ge
      | inl lt ↦ absurd (none-some _ (e ∙ ap (λ ws. slice_get ws n) (all_numbered r list) ∙ word_here n _ (words_of r list) lt refl))
    ]
word_number r list n (Some w) e = (
  (word_there n w (words_of r list) (ap (λ ws. slice_get ws n) (sym (all_numbered r list)) ∙ sym e)).0,
  number_again r list w n (sym e),
)

-- the same of a word that is lent
pub lent : {X Y : Type 0} (f : X → Y) (o : Option X) (P : Type 0) (Q : Y → Type 0) → MatchOption (option_map f o) P Q → MatchOption o P (λ x. Q (f x))
lent f None P Q h = h
lent f (Some x) P Q h = h
