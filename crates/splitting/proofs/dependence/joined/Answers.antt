use Rattle.splitting.proofs.Typical.{joins_more}
use Rattle.splitting.proofs.dependence.joined.Goals as goal

pub loop-word-preserved : goal.loop-word-preserved
loop-word-preserved c = joins_more c.loop-word.invariant
