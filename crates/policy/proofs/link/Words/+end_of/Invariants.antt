use Rattle.std.proofs.Common.{◌≡◌, ◌+◌, ◌-◌, ◌<◌, ◌≤◌, List, ◌++◌, length, drop}
use Rattle.policy_words.specs.declared.word.Word.{Word}
use Rattle.policy.specs.Linking.{Tree, write}
use Rattle.policy.proofs.Subtrees.{kids, write_all}
use Rattle.policy.proofs.link.Words.+end_of.Given as goal

abbrev pub decreases-end_of : goal.decreases-end_of
decreases-end_of l = length l.self.now - l.at

-- the operands so far end at `next`, and the others begin there
abbrev pub invariant-loop : goal.invariant-loop
invariant-loop l = record {
  rises : l.at < l.next;
  within : l.next ≤ length l.self;
  others : (t : Tree) (rest : List Word) → drop l.at l.self ≡ write t ++ rest → (drop l.next l.self ≡ write_all (drop l.counter (kids t)) ++ rest) × (l.at + length (write t) ≡ l.next + length (write_all (drop l.counter (kids t))));
}
