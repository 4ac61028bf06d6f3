-- `plainest` meets its contract. The loop's invariant: the best is the plainest of the words passed, and none behind them has a smaller number.
-- Assumes nothing.
use Rattle.std.proofs.Common.{not}
use Rattle.products.specs.Sets.{one_if, Picked}
use Rattle.members.proofs.Layers.{Best}
use Rattle.members.proofs.plainest.Given as goal

abbrev pub invariant-loop-w : goal.invariant-loop-w
invariant-loop-w l = Best (Picked (one_if (not l.out)) l.a l.b) l.w l.best l.few
