-- `guard_length` meets its contract. The loop's invariant: what the choices met weigh is all that the total lacks. Assumes nothing.
use Rattle.splitting.proofs.Lengths.{Counted}
use Rattle.splitting.proofs.length.guard_length.Given as goal

abbrev pub invariant-loop-i : goal.invariant-loop-i
invariant-loop-i l = Counted l.m l.names.text.now l.names.rows.now l.table l.met l.i l.total
