-- `level_six` meets its contract. Assumes nothing.
use Rattle.splitting.proofs.Marks.{told_six}
use Rattle.splitting.proofs.dependence.level_six.Goals as goal

pub returns : goal.returns
returns c = told_six _
