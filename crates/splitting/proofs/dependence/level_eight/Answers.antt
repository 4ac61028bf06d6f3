-- `level_eight` meets its contract. Assumes nothing.
use Rattle.splitting.proofs.Marks.{told_eight}
use Rattle.splitting.proofs.dependence.level_eight.Goals as goal

pub returns : goal.returns
returns c = told_eight _ _ c.requires
