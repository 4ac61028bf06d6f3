-- The four readers meet their contracts. Measure: twice the bytes left, and one more where the next call may be at the same place. The chain's
-- loop keeps `Chained`. Each return is one law of Returns, in `read_guard` of the slices taken anew (`anew`). Assumes nothing.
use Rattle.std.proofs.Common.{◌+◌, ◌-◌, ◌*◌, length}
use Rattle.guards.specs.Reading.{names_in}
use Rattle.guards.proofs.Returns.{Chained}
use Rattle.guards.proofs.+guard.Given as goal

abbrev pub decreases-read_chain : goal.decreases-read_chain
decreases-read_chain l = 2 * (length l.field.now - l.from) + 1

abbrev pub decreases-read_choice : goal.decreases-read_choice
decreases-read_choice l = 2 * (length l.field.now - l.at) + 1

abbrev pub decreases-read_guard : goal.decreases-read_guard
decreases-read_guard l = 2 * (length l.field.now - l.at)

abbrev pub decreases-read_open : goal.decreases-read_open
decreases-read_open l = 2 * (length l.field.now - l.at) + 1

abbrev pub invariant-read_chain-loop-next : goal.invariant-read_chain-loop-next
invariant-read_chain-loop-next l = Chained l.field (names_in l.names) l.left l.op l.from l.initial.set l.at l.set

abbrev pub decreases-read_chain-loop-next : goal.decreases-read_chain-loop-next
decreases-read_chain-loop-next l = length l.field - l.at
