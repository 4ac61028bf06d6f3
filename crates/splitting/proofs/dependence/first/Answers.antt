use Rattle.splitting.proofs.Marks.{passed_none, mark_below}
use Rattle.splitting.proofs.dependence.first.Goals as goal

pub loop-j-init : goal.loop-j-init
loop-j-init c = passed_none _ _ _ _ c.requires.1

pub marked-requires : goal.marked-requires
marked-requires c = mark_below _ _ _ _ c.requires.2 c.loop-j.invariant.least c.loop-j-test.true c.requires.0
