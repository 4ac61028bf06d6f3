-- `stop_at` meets its contract: a stop line of a state that has no row declares nothing. Assumes nothing.
use Rattle.std.proofs.Common.{[], get_or}
use Rattle.products.specs.Orders.{Before}
use Rattle.reporting.proofs.Loops.{past_stop}
use Rattle.reporting.proofs.stop_at.Goals as goal

pub returns-then-desk-state : goal.returns-then-desk-state
returns-then-desk-state c =
    past_stop (Before c.args.order) c.args.desk.now.sets.now (get_or c.args.desk.now.sheet.stop_guards.now c.args.i []) [] c.if-desk-state.true
