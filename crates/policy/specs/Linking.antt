-- Formulas and paths alike, as the words of a list and as the entries of a table.
use Rattle.std.specs.Prelude.{◌≡◌, ℕ, ◌+◌, ◌⊎◌, List, ◌++◌, drop}
use Rattle.std.proofs.Common.{inl, inr}
use Rattle.policy_words.specs.Tree.{Formula, Path, words, steps}
use Rattle.policy_words.specs.Tree.Formula.{is, same, has, neg, both, either, at_letter, at_name, bind, some}
use Rattle.policy_words.specs.Tree.Path.{forward, backward, seq, plus, stay}
use Rattle.policy_words.specs.declared.word.Word.{Word}
use Rattle.policy_words.specs.declared.word.Word.TheVariants as W
use Rattle.policy.specs.Table.{size, extent, plain, joint, entries, path_entries}
use Rattle.policy.specs.declared.entry.Entry.{Entry}

-- a formula or a path
abbrev pub Tree : Type 0
Tree = Formula ⊎ Path

-- its words
abbrev pub write : Tree → List Word
write (inl f) = words f
write (inr p) = steps p

-- its entries, where its first word has the number k
abbrev pub enter : ℕ → Tree → List Entry
enter k (inl f) = entries k f
enter k (inr p) = path_entries k p

-- its first entry
abbrev pub head : ℕ → Tree → Entry
head k (inl (is n)) = plain (W.Name n)
head k (inl (same v)) = plain (W.Letter v)
head k (inl (has m)) = plain (W.Mark m)
head k (inl (neg f)) = plain W.Not
head k (inl (both f g)) = joint W.And (k + 1 + size f)
head k (inl (either f g)) = joint W.Or (k + 1 + size f)
head k (inl (at_letter v f)) = plain (W.AtLetter v)
head k (inl (at_name n f)) = plain (W.AtName n)
head k (inl (bind v f)) = plain (W.Bind v)
head k (inl (some p f)) = joint W.Follow (k + 1 + extent p)
head k (inr (forward l)) = plain (W.Forward l)
head k (inr (backward l)) = plain (W.Backward l)
head k (inr (seq p t)) = joint W.Seq (k + 1 + extent p)
head k (inr (plus p)) = plain W.Plus
head k (inr stay) = plain W.Stay

-- of words that have the words of a tree at the place k, e is the tree's first entry
pub record IsEntryAt (ws : List Word) (k : ℕ) (e : Entry) : Type 0 where
  pub heads : (t : Tree) (rest : List Word) → drop k ws ≡ write t ++ rest → e ≡ head k t
