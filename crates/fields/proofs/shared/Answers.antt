use Rattle.std.proofs.Common.{arith}
use Rattle.fields.proofs.Same.{alike_one, shared_stop, shared_end}
use Rattle.fields.proofs.shared.Goals as goal

pub returns-then-x-n : goal.returns-then-x-n
returns-then-x-n c = omega (arith, shared_stop c.loop-n.invariant (omega arith) (omega arith) c.if-x-n.true)

pub loop-n-preserved : goal.loop-n-preserved
loop-n-preserved c = alike_one c.loop-n.invariant c.if-x-n.false (omega arith) (omega arith)

pub returns : goal.returns
returns c = let alike = c.loop-n.invariant in omega (arith, alike.left, alike.right, shared_end alike (omega arith))
