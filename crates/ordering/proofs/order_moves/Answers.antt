use Rattle.std.proofs.Common.{arith}
use Rattle.ordering.proofs.Laws.{orders_few}
use Rattle.ordering.proofs.Turns.{orders_start}
use Rattle.ordering.proofs.order_moves.Goals as goal

pub loop-i-init : goal.loop-i-init
loop-i-init c = orders_start _

pub order_row-ordered-requires : goal.order_row-ordered-requires
order_row-ordered-requires c = (orders_few c.loop-i.invariant, omega arith, omega arith, omega arith)
