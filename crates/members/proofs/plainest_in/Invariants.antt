-- `plainest_in` meets its contract. The loop's invariant: every product of the word has as many features as were passed, or more. Assumes nothing.
use Rattle.members.proofs.Layers.{From}
use Rattle.members.proofs.plainest_in.Given as goal

abbrev pub invariant-loop-n : goal.invariant-loop-n
invariant-loop-n l = From l.x l.common l.n
