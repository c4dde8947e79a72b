-- The number of an operand in its list, which is one of those that a policy can name.
use Rattle.std.proofs.Common.{◌≡◌, ℕ, ◌<◌, ◌≤◌, false, List, length, Some, None, Option, sym, refl, ◌∙◌, arith}
use Rattle.std.specs.Option.{ok_or}
use Rattle.std.proofs.lemmas.List.{length-take}
use Rattle.std.proofs.lemmas.Option.{none-some}
use Rattle.text.specs.Word.{Fine}
use Rattle.book.specs.Limits.{Within}
use Rattle.roll.specs.Lists.{alone, numbered}
use Rattle.roll.specs.Rolls.{text_of, words_of, number_of}
use Rattle.roll.specs.declared.list.List.{List as Which}
use Rattle.roll.specs.declared.list.List.TheVariants.{Names, Labels, Marks}
use Rattle.roll.specs.declared.roll.Roll.{Roll}
use Rattle.roll.proofs.Rolls.{sound}
use Rattle.roll.proofs.Walks.{place_word}
use Rattle.policy_reader.specs.Spell.{limit, Numbered}
use Rattle.policy_reader.specs.Operands.{ReadAs}
use Rattle.policy_reader.specs.declared.fault.Cause.TheVariants.{Unlisted}
use Rattle.policy_reader.specs.declared.token.Operand.{Operand}

within_limit : (list : Which) (n : ℕ) → Within (alone list n) → n ≤ limit list
within_limit Names n h = h.few_names
within_limit Labels n h = h.few_labels
within_limit Marks n h = h.few_marks

few_numbers : (r : Roll) (list : Which) (o : List ℕ) (n : ℕ) → number_of r list o ≡ Some n → n < limit list
few_numbers r list o n e =
    omega (arith, (place_word (numbered (text_of r list)) o n e).0, length-take 64 (words_of r list), within_limit list (length (words_of r list)) (sound r list).within)

pub number_read : (r : Roll) (list : Which) (o : Operand) (n : Option ℕ) → n ≡ number_of r list o.bytes.now → Fine o.bytes.now → ReadAs false o (λ n. Numbered r list o.bytes.now n) (ok_or n record { cause = Unlisted; at = o.at })
number_read r list o None e fine = (refl, (fine.0, fine.1, λ v. none-some v.0 (e ∙ v.1.is)))
number_read r list o (Some n) e fine = record { fine = fine; is = sym e; few = few_numbers r list o.bytes.now n (sym e) }
