-- Bytes spell at most one word, and have at most one fault.
use Rattle.std.proofs.Common.{◌≡◌, ℕ, Bool, List, ◌++◌, arith}
use Rattle.text.specs.Word.{Fine}
use Rattle.roll.specs.declared.roll.Roll.{Roll}
use Rattle.policy_words.specs.Letters.{letter_text}
use Rattle.policy_words.specs.declared.word.Letter.{Letter}
use Rattle.policy_words.specs.declared.word.Word.{Word}
use Rattle.policy_reader.specs.Token.{Sign, mark, Unsigned}
use Rattle.policy_reader.specs.Spell.{IsOperand, sign_of, Spells, bare, Listed, Breaks, Wrong}
use Rattle.policy_reader.specs.declared.fault.Cause.{Cause}

-- bytes have at most one sign, and after it one operand
same_cut : (s u : Sign) (o p : List ℕ) → mark s ++ o ≡ mark u ++ p → (s ≡ u) × (o ≡ p)
same_cut s u o p e = grind arith

one_operand : (r : Roll) (v w : Word) (o : List ℕ) → sign_of v ≡ sign_of w → IsOperand r v o → IsOperand r w o → v ≡ w
one_operand r v w o e a b = grind arith

pub spells_one : (r : Roll) (v w : Word) (b : List ℕ) → Spells r v b → Spells r w b → v ≡ w
spells_one r v w b x y = grind (arith, same_cut, one_operand)

letter_fine : (v : Letter) → Fine (letter_text v)
letter_fine v = grind arith

no_break : (r : Roll) (w : Word) (o : List ℕ) (c : Cause) → IsOperand r w o → Breaks (bare (sign_of w)) o (Listed r (sign_of w) o) c → ⊥
no_break r w o c h b = grind (arith, letter_fine)

unsigned_cut : (b : List ℕ) (c : Cause) (s : Sign) (o : List ℕ) → b ≡ mark s ++ o → Unsigned b c → ⊥
unsigned_cut b c s o e u = grind arith

pub wrong_spells : (r : Roll) (b : List ℕ) (c : Cause) (w : Word) → Wrong r b c → Spells r w b → ⊥
wrong_spells r b c w x y = grind (arith, same_cut, no_break, unsigned_cut)

unsigned_one : (b : List ℕ) (c d : Cause) → Unsigned b c → Unsigned b d → c ≡ d
unsigned_one b c d x y = grind arith

breaks_one : (b : Bool) (o : List ℕ) (M : Type 0) (c d : Cause) → Breaks b o M c → Breaks b o M d → c ≡ d
breaks_one b o M c d x y = grind arith

pub wrong_one : (r : Roll) (b : List ℕ) (c d : Cause) → Wrong r b c → Wrong r b d → c ≡ d
wrong_one r b c d x y = grind (arith, same_cut, unsigned_cut, unsigned_one, breaks_one)
