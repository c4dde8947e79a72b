-- Operands by their sign.
use Rattle.std.proofs.Common.{ℕ, Bool, List, subst}
use Rattle.roll.specs.declared.list.List.TheVariants.{Names, Labels, Marks}
use Rattle.roll.specs.declared.roll.Roll.{Roll}
use Rattle.policy_words.specs.declared.word.Word.{Word}
use Rattle.policy_words.specs.declared.word.Word.TheVariants as W
use Rattle.policy_reader.specs.Token.{Sign}
use Rattle.policy_reader.specs.Token.{Sign as S}
use Rattle.policy_reader.specs.Spell.{Numbered, IsOperand, sign_of, Listed, Breaks}
use Rattle.policy_reader.specs.declared.fault.Cause.{Cause}
use Rattle.policy_reader.specs.declared.fault.Cause.TheVariants as C

-- the number that an operand has, where its sign takes a word of a list
abbrev pub BySign : Roll → List ℕ → Sign → Type 0
BySign r o S.Name = (n : ℕ) × Numbered r Names o n
BySign r o S.Letter = Unit {0}
BySign r o S.Mark = (n : ℕ) × Numbered r Marks o n
BySign r o S.Not = Unit {0}
BySign r o S.And = Unit {0}
BySign r o S.Or = Unit {0}
BySign r o S.AtLetter = Unit {0}
BySign r o S.AtName = (n : ℕ) × Numbered r Names o n
BySign r o S.Bind = Unit {0}
BySign r o S.Follow = Unit {0}
BySign r o S.Forward = (n : ℕ) × Numbered r Labels o n
BySign r o S.Backward = (n : ℕ) × Numbered r Labels o n
BySign r o S.Seq = Unit {0}
BySign r o S.Plus = Unit {0}
BySign r o S.Stay = Unit {0}

by_word : (r : Roll) (o : List ℕ) (w : Word) → IsOperand r w o → BySign r o (sign_of w)
by_word r o (W.Name n) h = (n, h)
by_word r o (W.Letter v) h = tt
by_word r o (W.Mark n) h = (n, h)
by_word r o W.Not h = tt
by_word r o W.And h = tt
by_word r o W.Or h = tt
by_word r o (W.AtLetter v) h = tt
by_word r o (W.AtName n) h = (n, h)
by_word r o (W.Bind v) h = tt
by_word r o W.Follow h = tt
by_word r o (W.Forward n) h = (n, h)
by_word r o (W.Backward n) h = (n, h)
by_word r o W.Seq h = tt
by_word r o W.Plus h = tt
by_word r o W.Stay h = tt

-- an operand that is in the list of its sign has its number there
pub listed_by : (r : Roll) (o : List ℕ) (s : Sign) → Listed r s o → BySign r o s
listed_by r o s l = subst (BySign r o) l.1 (by_word r o l.0 l.2)

-- a rule that is broken stays so where what is said of the list says more
pub breaks_by : (b : Bool) (o : List ℕ) (L M : Type 0) (c : Cause) → (M → L) → Breaks b o L c → Breaks b o M c
breaks_by b o L M C.Empty f h = h
breaks_by b o L M C.Sign f h = h
breaks_by b o L M C.Byte f h = h
breaks_by b o L M C.Length f h = h
breaks_by b o L M C.Unlisted f h = (h.0, h.1, λ m. h.2 (f m))
