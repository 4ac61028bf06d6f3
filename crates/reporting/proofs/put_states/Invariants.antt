-- `put_states` meets its contract: the rows laid so far are those of the named states below q. Assumes nothing.
use Rattle.products.specs.Orders.{Before}
use Rattle.reporting.proofs.Loops.{Laid, Marks, Outgoing, StatesUpto}
use Rattle.reporting.proofs.put_states.Given as goal

abbrev pub invariant-loop-q : goal.invariant-loop-q
invariant-loop-q l =
    Marks l.desk.sheet.counts l.desk.sheet.moves.now l.desk.sheet.stops.now l.leaves l.stopped l.named
    × Laid (Outgoing l.desk.sheet.counts l.desk.sheet.moves.now l.desk.sheet.move_guards.now l.desk.sheet.stops.now l.desk.sheet.stop_guards.now l.desk.sets.now l.desk.out.now) (StatesUpto (Before l.order))
    l.initial.room l.at l.q l.room l.next
