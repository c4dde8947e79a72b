use Rattle.std.proofs.Common.{◌%◌, ap, ◌∙◌}
use Rattle.bits.specs.Bits.{bit}
use Rattle.bits.proofs.BitLaws.{bit_read}
use Rattle.bits.proofs.rows.is_set.Goals as goal

pub returns : goal.returns
returns c = bit_read c.word.result (c.args.i % 64) ∙ ap (λ w. bit w (c.args.i % 64)) c.word.ensures
