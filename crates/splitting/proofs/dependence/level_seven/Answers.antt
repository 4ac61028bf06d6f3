-- `level_seven` meets its contract. Assumes nothing.
use Rattle.splitting.proofs.Marks.{told_seven}
use Rattle.splitting.proofs.dependence.level_seven.Goals as goal

pub returns : goal.returns
returns c = told_seven _ _ c.requires
