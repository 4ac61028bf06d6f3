use Rattle.std.proofs.Common.{arith, rules}
use Rattle.fields.proofs.Same.{alike_none, alike_below, alike_eight}
use Rattle.fields.proofs.eights.Goals as goal

pub loop-k-init : goal.loop-k-init
loop-k-init c = (search rules, alike_none _ _)

pub returns-then-differs-ne0 : goal.returns-then-differs-ne0
returns-then-differs-ne0 c = alike_below c.loop-k.invariant.1 c.eight.ensures c.eight-in-loop-k.ensures (omega arith) (omega arith)

pub loop-k-preserved : goal.loop-k-preserved
loop-k-preserved c = (
  omega arith,
  alike_eight c.loop-k.invariant.1 c.eight.ensures c.eight-in-loop-k.ensures (omega arith) (omega arith) c.if-differs-ne0.false,
)

pub returns : goal.returns
returns c = c.loop-k.invariant.1
