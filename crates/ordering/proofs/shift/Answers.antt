-- `shift` meets its contract: x is laid behind the first k, and what stands from its place on is turned by one. Assumes nothing.
use Rattle.std.proofs.Common.{arith}
use Rattle.ordering.proofs.Places.{turned}
use Rattle.ordering.proofs.shift.Goals as goal

pub returns : goal.returns
returns c = turned _ _ _ _ (omega arith) (omega arith) c.rotate_right.ensures.after
