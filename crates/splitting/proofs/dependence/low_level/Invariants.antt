-- `low_level` meets its contract. The loop's invariant: the features from j on are brought together. Assumes nothing.
use Prim.Native.Nat.{◌-◌}
use Rattle.splitting.proofs.Marks.{Brought}
use Rattle.splitting.proofs.dependence.low_level.Given as goal

abbrev pub invariant-loop-j : goal.invariant-loop-j
invariant-loop-j l = Brought l.set l.i l.r (l.j - 1)
