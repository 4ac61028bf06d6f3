-- `put_stops` meets its contract: the rows laid so far are those of the first i stop lines. Assumes nothing.
use Rattle.products.specs.Orders.{Before}
use Rattle.reporting.proofs.Loops.{Laid, Outgoing, StopsUpto}
use Rattle.reporting.proofs.put_stops.Given as goal

abbrev pub invariant-loop-i : goal.invariant-loop-i
invariant-loop-i l =
    Laid (Outgoing l.desk.sheet.counts l.desk.sheet.moves.now l.desk.sheet.move_guards.now l.desk.sheet.stops.now l.desk.sheet.stop_guards.now l.desk.sets.now l.desk.out.now) (StopsUpto (Before l.order))
    l.initial.room l.at l.i l.room l.next
