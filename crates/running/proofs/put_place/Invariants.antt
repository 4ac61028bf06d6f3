-- `put_place` meets its contract: what is laid so far is the states before q. The measure is what is left of the 64. Assumes nothing.
use Prim.Native.Nat.{◌-◌, ◌≤◌}
use Rattle.text.specs.Text.{Wrote, texts}
use Rattle.running.specs.Shown.{state_text}
use Rattle.running.proofs.put_place.Given as goal

abbrev pub invariant-loop-q : goal.invariant-loop-q
invariant-loop-q l = (l.q ≤ 64) × Wrote l.initial.room l.initial.next (texts (state_text l.place) l.q) l.room l.next

abbrev pub decreases-loop-q : goal.decreases-loop-q
decreases-loop-q l = 64 - l.q
