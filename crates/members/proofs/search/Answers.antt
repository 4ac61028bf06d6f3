use Rattle.members.proofs.Passed.{passed_word, least_at}
use Rattle.members.proofs.search.Goals as goal

pub loop-w-preserved : goal.loop-w-preserved
loop-w-preserved c = passed_word _ c.picked-x.ensures c.loop-w.invariant c.if-x-ne0.false

pub returns-then-x-ne0 : goal.returns-then-x-ne0
returns-then-x-ne0 c =
    let low = c.lowest.ensures in
    least_at _ c.picked-x.ensures c.loop-w.invariant c.loop-w-test.true low.place low.has low.first
