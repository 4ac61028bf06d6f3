-- `step`: refused as the reader refuses, then by 12, then by 19; or the box goes on. Assumes nothing.
use Rattle.std.proofs.Common.{arith}
use Rattle.running.proofs.Meaning.{act_refused, act_stayed, act_done}
use Rattle.running.proofs.step.Goals as goal

pub returns-then-not-allowed : goal.returns-then-not-allowed
returns-then-not-allowed c = rw c.refuse.ensures (act_refused _ c.in_ok-c.ensures _ _ c.has-allowed.ensures c.if-not-allowed.true-raw)

pub returns-then-place-eq0 : goal.returns-then-place-eq0
returns-then-place-eq0 c =
    rw c.refuse-then-place-eq0.ensures
    (act_stayed _ c.in_ok-c.ensures _ _ c.has-allowed.ensures c.if-not-allowed.false-raw c.ends-place.ensures (omega (arith, c.if-place-eq0.true)))

pub returns : goal.returns
returns c = act_done _ c.in_ok-c.ensures _ _ c.has-allowed.ensures c.if-not-allowed.false-raw c.ends-place.ensures (λ z. c.if-place-eq0.false z) (omega arith)
