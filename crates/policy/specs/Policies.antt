-- What a policy means, and why words make none.
use Rattle.std.specs.Prelude.{◌≡◌, ℕ, ◌<◌, ◌≤◌, List, length, take, Ok, Err, Result, slice_index_or}
use Rattle.policy_words.specs.Tree.{Formula, words, Allowed, EachAllowed, Whole}
use Rattle.policy_words.specs.Tree.Formula.{neg, at_letter, same}
use Rattle.policy_words.specs.Shape.{Shaped}
use Rattle.policy_words.specs.declared.word.Letter.TheVariants.{Requester}
use Rattle.policy_words.specs.declared.word.Word.{Word}
use Rattle.policy_words.specs.declared.word.Word.TheVariants.{Name}
use Rattle.policy.specs.Letters.{given}
use Rattle.policy.specs.Table.{entries}
use Rattle.policy.specs.Free.{Loose, First, Closed}
use Rattle.policy.specs.Anchor.{Stray}
use Rattle.policy.specs.Proper.{Proper}
use Rattle.policy.specs.declared.entry.Entry.{Entry}
use Rattle.policy.specs.declared.fault.WordsFault.{WordsFault}
use Rattle.policy.specs.declared.fault.WordsFault.TheVariants as F
use Rattle.policy.specs.declared.policy.Policy.{Policy}

-- the entries of a policy's table
abbrev pub entries_of : Policy → List Entry
entries_of p = take p.len p.table

-- the policy is the formula's
abbrev pub Means : Policy → Formula → Type 0
Means p f = entries_of p ≡ entries 0 f

-- the formula `! @?q ?q`
abbrev pub built_in : Formula
built_in = neg (at_letter Requester (same Requester))

-- word k has a number that no name, label or mark can have, or sets a letter that none can set
abbrev pub Forbidden : List Word → ℕ → Type 0
Forbidden ws k = (k < length ws) × (Allowed (slice_index_or ws k (Name 0)) → ⊥)

-- what the words make: the policy of a formula, or which fault comes first
abbrev pub Makes : List Word → Result Formula WordsFault → Type 0
Makes ws (Ok f) = (words f ≡ ws) × Proper f
Makes ws (Err (F.Shape s)) = Shaped ws (Err s)
Makes ws (Err (F.Number k)) = Whole ws × (length ws ≤ 64) × First (Forbidden ws) k
Makes ws (Err (F.Loose k)) = (f : Formula) × (words f ≡ ws) × (length ws ≤ 64) × EachAllowed ws × First (Loose given f) k
Makes ws (Err (F.Unanchored k)) = (f : Formula) × (words f ≡ ws) × (length ws ≤ 64) × EachAllowed ws × Closed f × First (Stray f) k
