-- `later_word` meets its contract: each feature from 6 on has its words. Assumes nothing.
use Rattle.splitting.proofs.Marks.{told_nine}
use Rattle.splitting.proofs.dependence.later_word.Goals as goal

pub returns : goal.returns
returns c = told_nine _ _ c.if-w-lt8.false c.requires.1
