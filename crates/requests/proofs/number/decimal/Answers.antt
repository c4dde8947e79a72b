use Rattle.std.proofs.Common.{sym}
use Rattle.requests.proofs.Decimals.{digits_bad, written_bad, digits_next, value_next}
use Rattle.requests.proofs.number.decimal.Goals as goal

pub loop-byte-preserved : goal.loop-byte-preserved
loop-byte-preserved c =
    let w = c.args.word.now in
    let i = c.loop-byte.byte-index in
    let lt = c.loop-byte-test.true in (
      digits_next w i lt c.loop-byte.invariant.0 (sym c.if-not-is_ascii_digit.ensures.value),
      value_next w i lt _ c.args.most _ c.loop-byte.invariant.1 c.one_more_digit-number.ensures,
    )

pub returns-then-not-is_ascii_digit : goal.returns-then-not-is_ascii_digit
returns-then-not-is_ascii_digit c =
    let w = c.args.word.now in
    sym (written_bad w c.args.most (digits_bad w c.loop-byte.byte-index 0 c.loop-byte-test.true (sym c.if-not-is_ascii_digit.ensures.value)))
