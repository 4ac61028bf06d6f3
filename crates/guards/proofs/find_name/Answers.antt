use Rattle.std.proofs.Common.{arith}
use Rattle.guards.proofs.Finding.{left_here, left_less, left_none}
use Rattle.guards.proofs.find_name.Goals as goal

pub returns-then-stands_at : goal.returns-then-stands_at
returns-then-stands_at c = left_here _ c.loop-i.invariant (omega arith) c.stands_at.ensures c.if-stands_at.true

pub loop-i-preserved : goal.loop-i-preserved
loop-i-preserved c = left_less _ c.loop-i.invariant (omega arith) c.stands_at.ensures c.if-stands_at.false

pub returns : goal.returns
returns c = left_none _ c.loop-i.invariant (omega arith)
