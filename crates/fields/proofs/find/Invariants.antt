-- `find`. The invariant: nothing passed is the mark. The measure is what is left of the length. Assumes nothing.
use Rattle.std.proofs.Common.{◌-◌, length}
use Rattle.fields.proofs.Found.{Passed}
use Rattle.fields.proofs.find.Given as goal

abbrev pub invariant-loop-i : goal.invariant-loop-i
invariant-loop-i l = Passed l.s l.m l.from l.i

abbrev pub decreases-loop-i : goal.decreases-loop-i
decreases-loop-i l = length l.s - l.i
