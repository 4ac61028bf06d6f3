-- `same` meets its contract. The loop's invariant: `differ` is 0 exactly where the words passed are the same. Assumes nothing.
use Rattle.members.proofs.Joined.{Joined, difference}
use Rattle.members.proofs.same.Given as goal

abbrev pub invariant-loop-i : goal.invariant-loop-i
invariant-loop-i l = Joined (difference l.a l.b) l.i l.differ
