-- `eights`. The invariant: up to place k both are alike, and k is no further than both reach. Assumes nothing.
use Rattle.std.proofs.Common.{◌-◌, ◌≤◌}
use Rattle.fields.specs.Inside.{BeginAlike}
use Rattle.fields.proofs.eights.Given as goal

abbrev pub invariant-loop-k : goal.invariant-loop-k
invariant-loop-k l = (l.k ≤ l.most) × BeginAlike l.x l.y l.k

abbrev pub decreases-loop-k : goal.decreases-loop-k
decreases-loop-k l = l.most - l.k
