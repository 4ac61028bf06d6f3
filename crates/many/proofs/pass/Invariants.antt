-- `many::pass` is safe and ends: the measure is what is left to pass over, and each turn takes some of it.
-- Assumes nothing.
use mathlib.Core.Path.{◌≡◌}
use lib.ListN.{length}
use Rattle.many.proofs.pass.Given as goal

abbrev pub invariant-loop-left : goal.invariant-loop-left
invariant-loop-left g l = length l.some ≡ 4096

abbrev pub decreases-loop-left : goal.decreases-loop-left
decreases-loop-left g l = l.left
