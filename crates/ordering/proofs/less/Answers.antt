-- `less` meets its contract: one law for each return, by how many bytes both share. Assumes nothing.
use Rattle.std.proofs.Common.{arith}
use Rattle.ordering.proofs.Places.{less_short, less_long, less_stop}
use Rattle.ordering.proofs.less.Goals as goal

pub returns-then-y-n : goal.returns-then-y-n
returns-then-y-n c = less_short _ _ c.shared-n.ensures (omega arith)

pub returns-then-x-n : goal.returns-then-x-n
returns-then-x-n c = less_long _ _ c.shared-n.ensures (omega arith) (omega arith)

pub returns : goal.returns
returns c = less_stop _ _ c.shared-n.ensures (omega arith) (omega arith)
