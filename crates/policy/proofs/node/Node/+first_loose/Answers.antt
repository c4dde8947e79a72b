use Rattle.std.proofs.Common.{arith}
use Rattle.policy.specs.Letters.{has}
use Rattle.policy.proofs.Walks.{loose_in}
use Rattle.policy.proofs.node.Node.+first_loose.Goals as goal

pub returns-in-One : goal.returns-in-One
returns-in-One t c = λ f l. let e = loose_in _ (λ v. has v c.in-Some.inner) _ f (c.word.ensures f l) c.in-Some.ensures.0 c.in-Some.ensures.1 in grind arith

pub returns-in-None : goal.returns-in-None
returns-in-None t c = λ f l. let e = loose_in _ (λ v. has v c.in-Some.inner) _ f (c.word.ensures f l) c.in-Some.ensures.0 c.in-Some.ensures.1 in grind arith

pub returns-in_default-first_loose : goal.returns-in_default-first_loose
returns-in_default-first_loose t c = λ f l. let e = loose_in _ (λ v. has v c.in-Some.inner) _ f (c.word.ensures f l) c.in-Some.ensures.0 c.in-Some.ensures.1 in grind arith
