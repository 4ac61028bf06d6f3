use native.Mathlib.Omega.{arith}
use Rattle.splitting.proofs.Marks.{step_small, brought_more, brought_all}
use Rattle.splitting.proofs.dependence.low_level.Goals as goal

pub overflow_shr-r : goal.overflow_shr-r
overflow_shr-r c = step_small _ (omega arith)

pub loop-j-preserved : goal.loop-j-preserved
loop-j-preserved c = brought_more c.loop-j.invariant (omega arith)

pub returns : goal.returns
returns c = brought_all c.loop-j.invariant (omega arith)
