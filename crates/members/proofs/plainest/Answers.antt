use Rattle.std.proofs.Common.{arith}
use Rattle.products.proofs.Ordered.{bits_le}
use Rattle.members.proofs.Layers.{best_stays, best_changes, best_is}
use Rattle.members.proofs.plainest.Goals as goal
use Rattle.members.proofs.plainest.Goals.{in-Some, in_default}

pub returns-then-words_below-w : goal.returns-then-words_below-w
returns-then-words_below-w c = best_is c.loop-w.invariant c.if-words_below-w.true c.words_below.ensures.1

pub plainest_in-requires : goal.plainest_in-requires
plainest_in-requires c = (c.loop-w-test.true, omega (arith, c.loop-w.invariant.has_few, bits_le c.loop-w.best 10))

pub loop-w-preserved : goal.loop-w-preserved
loop-w-preserved c =
    let best = c.loop-w.invariant in
    let on = c.picked-x.ensures in
    let found = c.plainest_in.ensures in
    elim c.match-plainest_in.branch [
      | in-Some w ↦ rw (w.best-is, w.few-is) (best_changes _ best on found w.in-Some.is c.loop-w-test.true w.features_of-few-in-Some.ensures)
      | in_default w ↦ rw (w.best-is, w.few-is) (best_stays _ best on found w.in_default.is)
    ]
