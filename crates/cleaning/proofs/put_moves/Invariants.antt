-- `put_moves` meets its contract: the lines laid so far are those of the first i rows in order. Assumes nothing.
use Rattle.std.proofs.Common.{min}
use Rattle.cleaning.proofs.Loops.{MovesLaid}
use Rattle.cleaning.proofs.put_moves.Given as goal

abbrev pub invariant-loop-i : goal.invariant-loop-i
invariant-loop-i l = MovesLaid l.desk.sheet.text.now l.desk.sheet.names.now l.desk.sheet.moves.now l.desk.sheet.move_guards.now l.desk.sets.now l.order (min l.desk.sheet.counts.features 10) l.initial.room l.at l.i l.room l.next
