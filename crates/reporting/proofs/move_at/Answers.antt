-- `move_at` meets its contract: nobody makes a move from a state that has no row. Assumes nothing.
use Rattle.std.proofs.Common.{refl, [], get_or}
use Rattle.products.specs.Orders.{Before}
use Rattle.reporting.proofs.Loops.{past_move}
use Rattle.reporting.proofs.move_at.Goals as goal

pub returns-then-desk-from : goal.returns-then-desk-from
returns-then-desk-from c = (refl, past_move (Before c.args.order) c.args.desk.now.sets.now (get_or c.args.desk.now.sheet.move_guards.now c.args.i []) c.if-desk-from.true)
