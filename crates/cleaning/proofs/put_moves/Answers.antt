use Rattle.std.proofs.Common.{arith, rules}
use Rattle.cleaning.proofs.Loops.{moves_none, moves_more, moves_all}
use Rattle.cleaning.proofs.put_moves.Goals as goal

pub loop-i-init : goal.loop-i-init
loop-i-init c = moves_none (search rules)

pub loop-i-preserved : goal.loop-i-preserved
loop-i-preserved c = moves_more c.loop-i.invariant (omega arith) c.put_move-next.ensures

pub returns : goal.returns
returns c = moves_all _ c.loop-i.invariant c.min-n.ensures (omega arith)
