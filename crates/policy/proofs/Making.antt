-- The steps of making a policy from words.
use Rattle.std.proofs.Common.{◌≡◌, ℕ, ◌<◌, ◌≤◌, true, false, List, length, get_or, take, Option, sym, ap, ◌∙◌, subst, arith}
use Rattle.policy_words.specs.Tree.{Formula, words}
use Rattle.policy_words.specs.declared.word.Word.{Word}
use Rattle.policy.specs.Free.{later, first_loose}
use Rattle.policy.specs.declared.entry.Entry.{Entry}
use Rattle.policy.specs.Letters.{has, given}
use Rattle.policy.specs.Table.{entries, Stands}
use Rattle.policy.specs.Linking.{IsEntryAt}
use Rattle.policy_words.specs.declared.word.Letter.{Letter}
use Rattle.policy.proofs.Places.{Tells}
use Rattle.policy.proofs.Tables.{table_is, none, entries-length, stands_whole}

later_none : (o : Option ℕ) → later 0 o ≡ o
later_none o = grind arith

-- a walk from the first word of the table
pub from_start : (x o : Option ℕ) (P : ℕ → Type 0) → Tells o P → x ≡ later 0 o → Tells x P
from_start x o P t e = subst (λ y. Tells y P) (sym (e ∙ later_none o)) t

has-given : (v : Letter) → has v (record { requester = true; resource = true; a = false; b = false }) ≡ given v
has-given v = grind arith

pub loose_given : (f : Formula) → later 0 (first_loose (λ v. has v (record { requester = true; resource = true; a = false; b = false })) f) ≡ later 0 (first_loose given f)
loose_given f = ap (λ s. later 0 (first_loose s f)) (λ i v. has-given v i)

-- the table that is made is the formula's
pub record Ready (ws : List Word) (table : List Entry) (f : Formula) : Type 0 where
  pub whole : take (length ws) table ≡ entries 0 f
  pub stands : Stands (take (length ws) table) 0 f
  pub few : length (take (length ws) table) ≤ 64

pub ready : (ws : List Word) (table : List Entry) (f : Formula) → words f ≡ ws → length ws ≤ 64 → length table ≡ 64 → ((k : ℕ) → k < 64 → IsEntryAt ws k (get_or table k none)) → Ready ws table f
ready ws table f e le long h =
    let w = table_is f ws table e (omega arith) (λ k lt. h k (omega arith)) in
    record { whole = w; stands = stands_whole f _ w; few = omega (arith, ap length w, entries-length f 0, ap length e) }
