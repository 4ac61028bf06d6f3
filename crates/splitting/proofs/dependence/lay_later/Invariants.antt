-- `lay_later` meets its contract. The loop's invariant: the words so far tell on which features the set depends. Assumes nothing.
use Rattle.splitting.proofs.Marks.{Made}
use Rattle.splitting.proofs.dependence.lay_later.Given as goal

abbrev pub invariant-loop-w : goal.invariant-loop-w
invariant-loop-w l = Made l.set l.table l.w
