-- Which formulas can be policies, and their tables.
use Rattle.std.specs.Prelude.{◌≡◌, ◌≤◌, List}
use Rattle.policy_words.specs.Tree.{Formula, words, EachAllowed}
use Rattle.policy.specs.Table.{size, entries}
use Rattle.policy.specs.Free.{Closed}
use Rattle.policy.specs.Anchor.{Anchored}
use Rattle.policy.specs.declared.entry.Entry.{Entry}

-- a formula that can be a policy
pub record Proper (f : Formula) : Type 0 where
  pub few : size f ≤ 64
  pub allowed : EachAllowed (words f)
  pub closed : Closed f
  pub anchored : Anchored f

-- the table is that of a formula that can be a policy
abbrev pub Written : List Entry → Type 0
Written es = (f : Formula) × (es ≡ entries 0 f) × Proper f
