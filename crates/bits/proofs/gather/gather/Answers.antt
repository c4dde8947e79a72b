use Rattle.bits.proofs.Gathering.{gathered_whole, gathered_parts}
use Rattle.bits.proofs.gather.gather.Goals as goal

pub returns-then-low-eq0 : goal.returns-then-low-eq0
returns-then-low-eq0 c k lt = gathered_whole c.args.words.now c.args.i k c.word.result lt c.word.ensures c.if-low-eq0.true

pub returns-else-low-eq0 : goal.returns-else-low-eq0
returns-else-low-eq0 c k lt =
    gathered_parts c.args.words.now c.args.i k c.word.result lt c.word.ensures c.word-else-low-eq0.result c.if-low-eq0.false c.word.type_inv c.word-else-low-eq0.ensures
