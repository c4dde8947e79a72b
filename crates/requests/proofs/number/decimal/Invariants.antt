use Rattle.std.proofs.Common.{◌≡◌, min, true, take}
use Rattle.requests.specs.Decimal.{digits, value}
use Rattle.requests.proofs.number.decimal.Given as goal

abbrev pub invariant-loop-byte : goal.invariant-loop-byte
invariant-loop-byte l = (digits (take l.byte-index l.word) ≡ true) × (l.number ≡ min (value 0 (take l.byte-index l.word)) l.most)
