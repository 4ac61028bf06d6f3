-- `put_stops` meets its contract: the lines laid so far are those of the states below q, and the marks left are those from q on. The measure is the
-- number of states left. Assumes nothing.
use Rattle.std.proofs.Common.{◌≡◌, ◌≤◌, ◌-◌, ◌/◌, ◌^◌, min}
use Rattle.cleaning.specs.Laying.{rows_on}
use Rattle.cleaning.proofs.Loops.{StopsLaid}
use Rattle.cleaning.proofs.put_stops.Given as goal

abbrev pub invariant-loop-left : goal.invariant-loop-left
invariant-loop-left l = (l.q ≤ 64) × (l.left ≡ l.leaves / 2 ^ l.q) × StopsLaid l.desk.sheet.text.now l.desk.sheet.names.now l.desk.sheet.moves.now l.desk.sheet.move_guards.now l.desk.sets.now (min l.desk.sheet.counts.features 10) (rows_on l.desk) l.initial.room l.at l.q l.room l.next

abbrev pub decreases-loop-left : goal.decreases-loop-left
decreases-loop-left l = 64 - l.q
