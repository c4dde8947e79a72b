-- The numbers of words that a text spells are below the counts of the roll.
use Rattle.std.proofs.Common.{ℕ, ◌<◌, min, List as Seq, [], ◌∷◌, length, Ok, arith}
use Rattle.std.proofs.lemmas.List.{length-take}
use Rattle.text.specs.Text.{words as text_words}
use Rattle.roll.specs.Lists.{numbered}
use Rattle.roll.specs.Rolls.{text_of, words_of, counts_of}
use Rattle.roll.specs.declared.list.List.{List}
use Rattle.roll.specs.declared.list.List.TheVariants.{Names, Labels, Marks}
use Rattle.roll.specs.declared.roll.Roll.{Roll}
use Rattle.roll.proofs.Walks.{place_word}
use Rattle.policy_words.specs.Tree.{Formula, words}
use Rattle.policy_words.specs.declared.word.Word.{Word}
use Rattle.policy_words.specs.declared.word.Word.TheVariants as W
use Rattle.policy_reader.specs.Spell.{IsOperand, Numbered}
use Rattle.policy_reader.specs.Told.{EachSpells, Told, Below, EachBelow}

number_below : (r : Roll) (list : List) (o : Seq ℕ) (n : ℕ) → Numbered r list o n → n < min 65 (length (words_of r list))
number_below r list o n h = omega (arith, (place_word (numbered (text_of r list)) o n h.is).0, length-take 64 (words_of r list))

below : (r : Roll) (w : Word) (o : Seq ℕ) → IsOperand r w o → Below (counts_of r) w
below r (W.Name n) o h = number_below r Names o n h
below r (W.AtName n) o h = number_below r Names o n h
below r (W.Mark n) o h = number_below r Marks o n h
below r (W.Forward n) o h = number_below r Labels o n h
below r (W.Backward n) o h = number_below r Labels o n h
below r _ o h = tt

all_below : (r : Roll) (vs : Seq Word) (bs : Seq (Seq ℕ)) → EachSpells r vs bs → EachBelow (counts_of r) vs
all_below r [] bs h = tt
all_below r (v ∷ vs) [] h = absurd h
all_below r (v ∷ vs) (b ∷ bs) h = (below r v h.0.0 h.0.2, all_below r vs bs h.1)

pub each_below : (r : Roll) (t : Seq ℕ) (f : Formula) → Told r t (Ok f) → EachBelow (counts_of r) (words f)
each_below r t f h = all_below r (words f) (text_words t) h.0.0
