use Rattle.std.proofs.Common.{arith}
use Rattle.sheet.proofs.Looking.{looked_all, looked_more, looked_found, looked_none, stop_found, stop_more, stop_none}
use Rattle.sheet.proofs.row.has_stop.Goals as goal

pub loop-i-init : goal.loop-i-init
loop-i-init c = rw c.min-i.ensures (looked_all _ _ _)

pub returns-then-state-stops : goal.returns-then-state-stops
returns-then-state-stops c = looked_found _ _ c.loop-i.invariant (omega arith) (λ d ds h. stop_found _ d ds h c.if-state-stops.true)

pub loop-i-preserved : goal.loop-i-preserved
loop-i-preserved c = looked_more _ _ c.loop-i.invariant (omega arith) (λ d ds h. stop_more _ d ds h c.if-state-stops.false)

pub returns : goal.returns
returns c = looked_none _ _ c.loop-i.invariant (omega arith) (stop_none _)
