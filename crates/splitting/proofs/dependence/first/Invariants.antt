-- `first` meets its contract. The loop's invariant: no feature passed is marked. Assumes nothing.
use Rattle.splitting.proofs.Marks.{Passed}
use Rattle.splitting.proofs.dependence.first.Given as goal

abbrev pub invariant-loop-j : goal.invariant-loop-j
invariant-loop-j l = Passed l.table l.n l.i l.chosen l.j
