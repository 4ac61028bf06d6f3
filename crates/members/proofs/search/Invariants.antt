-- `search` meets its contract. The loop's invariant: no product of the words passed is picked. Assumes nothing.
use Rattle.std.proofs.Common.{not}
use Rattle.products.specs.Sets.{one_if}
use Rattle.members.proofs.Passed.{Passed}
use Rattle.members.proofs.search.Given as goal

abbrev pub invariant-loop-w : goal.invariant-loop-w
invariant-loop-w l = Passed (one_if (not l.out)) l.a l.b l.w
