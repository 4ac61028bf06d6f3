-- `shared`. The invariant: up to place n both are alike. It holds where `eights` leaves off. Assumes nothing.
use Rattle.fields.specs.Inside.{BeginAlike}
use Rattle.fields.proofs.shared.Given as goal

abbrev pub invariant-loop-n : goal.invariant-loop-n
invariant-loop-n l = BeginAlike l.x l.y l.n
