use Rattle.std.proofs.Common.{arith}
use Rattle.sheet.proofs.Marks.{mixed_start, mixed_more, mixed_done}
use Rattle.sheet.proofs.row.place_of.Goals as goal

pub loop-i-init : goal.loop-i-init
loop-i-init c = mixed_start _ _ (omega arith) (omega arith)

pub loop-i-preserved : goal.loop-i-preserved
loop-i-preserved c = rw c.mix-h.ensures (mixed_more c.loop-i.invariant (omega arith))

pub returns : goal.returns
returns c = mixed_done _ _ c.loop-i.invariant (omega arith) (omega arith)
