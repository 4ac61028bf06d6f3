use Rattle.std.proofs.Common.{rules, arith}
use Rattle.reporting.proofs.Loops.{moves_none, moves_more, moves_all}
use Rattle.reporting.proofs.put_moves.Goals as goal

pub loop-i-init : goal.loop-i-init
loop-i-init c = moves_none _ (search rules)

pub loop-i-preserved : goal.loop-i-preserved
loop-i-preserved c = moves_more _ c.loop-i.invariant c.move_at.result.verdict c.put_move-next.ensures (omega arith) c.move_at.ensures

pub shape_of-room : goal.shape_of-room
shape_of-room c = c.loop-i.invariant.long

pub returns : goal.returns
returns c = moves_all _ c.loop-i.invariant (omega arith)
