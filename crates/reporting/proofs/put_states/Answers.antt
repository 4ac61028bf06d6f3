use Rattle.std.proofs.Common.{rules, arith}
use Rattle.reporting.proofs.Loops.{marks_are, behind_small, states_none, states_passed, states_more, states_all}
use Rattle.reporting.proofs.put_states.Goals as goal
use Rattle.reporting.proofs.put_states.Goals.{then-named-q-eq1, else-named-q-eq1}

pub loop-q-init : goal.loop-q-init
loop-q-init c = (marks_are c.states_at-ends.result c.states_at-leaves.ensures c.states_at-ends.ensures c.stopped_states-stopped.ensures c.named_word-named.ensures, states_none _ (search rules))

pub loop-q-preserved : goal.loop-q-preserved
loop-q-preserved c =
    let inv = c.loop-q.invariant in (
      inv.0,
      elim c.if-named-q-eq1.branch [
        | then-named-q-eq1 w ↦ states_more _ inv.0 inv.1 (omega arith) w.room-is w.next-is w.if-named-q-eq1.true (search rules) w.put_state_at-next.ensures
        | else-named-q-eq1 w ↦ states_passed _ inv.0 inv.1 (omega arith) w.room-is w.next-is w.if-named-q-eq1.false
      ],
    )

pub shape_of-room : goal.shape_of-room
shape_of-room c = c.loop-q.invariant.1.long

pub returns : goal.returns
returns c = states_all _ c.loop-q.invariant.0 c.loop-q.invariant.1 (behind_small (search rules)) (omega arith) (omega arith)
