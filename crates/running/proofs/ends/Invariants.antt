-- `ends` meets its contract: the rows passed so far, gathered. Assumes nothing.
use Prim.Native.Nat.{◌≤◌, ◌-◌}
use Rattle.running.specs.Inside.{Gathered, leads_at}
use Rattle.running.proofs.ends.Given as goal

abbrev pub invariant-loop-i : goal.invariant-loop-i
invariant-loop-i l = (l.i ≤ l.n) × Gathered (leads_at l.text l.moves l.guards l.b l.action) l.i l.place

abbrev pub decreases-loop-i : goal.decreases-loop-i
decreases-loop-i l = l.n - l.i
