use Rattle.std.proofs.Common.{◌≡◌, ◌*◌, ◌/◌, ◌%◌, ◌^◌, get_or, set, ap, ◌∙◌, arith}
use Rattle.std.specs.Int.Bits.{bit_xor}
use Rattle.std.proofs.lemmas.Nat.{one_shl, mod_below}
use Rattle.bits.specs.Bits.{bit_set}
use Rattle.bits.proofs.BitLaws.{lit_flip}
use Rattle.bits.proofs.rows.flip.Goals as goal

pub returns-then-at-words-clause-turned : goal.returns-then-at-words-clause-turned
returns-then-at-words-clause-turned c within j =
    let ws = c.args.words.now in
    let i = c.args.i in
    let mask : (1 * 2 ^ (i % 64)) % 2 ^ 64 ≡ 2 ^ (i % 64) = one_shl (i % 64) 64 (mod_below i 64 (omega arith)) in
    ap (λ n. bit_set (set ws (i / 64) (bit_xor (get_or ws (i / 64) 0) n)) j) mask ∙ lit_flip ws i c.if-at-words.true j
