use Rattle.std.proofs.Common.{◌≡◌, ◌≤◌, length}
use Rattle.policy_reader.specs.Told.{EachSpells}
use Rattle.policy_reader.proofs.Finding.{bytes}
use Rattle.policy_reader.proofs.found.fill.Given as goal

abbrev pub invariant-loop-piece : goal.invariant-loop-piece
invariant-loop-piece l = record {
  few : length l.words.items ≤ 64;
  as_many : length l.words.items ≡ length l.yielded;
  spelled : EachSpells l.roll l.words.items (bytes l.yielded);
}
