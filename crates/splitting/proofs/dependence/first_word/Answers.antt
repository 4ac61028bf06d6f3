-- `first_word` meets its contract: six levels in one word. Assumes nothing.
use Rattle.splitting.proofs.Marks.{told_first}
use Rattle.splitting.proofs.dependence.first_word.Goals as goal

pub returns : goal.returns
returns c =
    told_first c.low_level.ensures c.low_level-2.ensures c.low_level-3.ensures c.low_level-4.ensures c.low_level-5.ensures
    c.low_level-6.ensures
