-- `place_of` meets its contract. The invariant: x is before none of the rows in front of `low`, and before all from `high` on. Assumes nothing.
use Rattle.std.proofs.Common.{◌-◌, ◌≤◌}
use Rattle.ordering.specs.Ordering.{key_at}
use Rattle.ordering.specs.Inside.{Level, Between}
use Rattle.ordering.proofs.place_of.Given as goal

abbrev pub invariant-loop-low : goal.invariant-loop-low
invariant-loop-low l = (l.low ≤ l.high) × (l.high ≤ l.k) × (Level (key_at l.text l.moves) l.k l.order → Between (key_at l.text l.moves) l.x l.k l.order l.low l.high)

abbrev pub decreases-loop-low : goal.decreases-loop-low
decreases-loop-low l = l.high - l.low
