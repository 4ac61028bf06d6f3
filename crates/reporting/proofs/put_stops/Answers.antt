use Rattle.std.proofs.Common.{rules, arith}
use Rattle.reporting.proofs.Loops.{stops_none, stops_more, stops_all}
use Rattle.reporting.proofs.put_stops.Goals as goal

pub loop-i-init : goal.loop-i-init
loop-i-init c = stops_none _ (search rules)

pub loop-i-preserved : goal.loop-i-preserved
loop-i-preserved c = stops_more _ c.loop-i.invariant c.stop_at.result c.put_stop-next.ensures (omega arith) c.stop_at.ensures

pub shape_of-room : goal.shape_of-room
shape_of-room c = c.loop-i.invariant.long

pub returns : goal.returns
returns c = stops_all _ c.loop-i.invariant (omega arith)
