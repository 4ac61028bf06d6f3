-- `lay_table` meets its contract: the words behind the first, then the first; where the marks end by the one or by the other. Assumes nothing.
use Rattle.splitting.proofs.Ends.{ends_late, ends_early}
use Rattle.splitting.proofs.dependence.lay_table.Goals as goal

pub returns-then-m-gt6 : goal.returns-then-m-gt6
returns-then-m-gt6 c =
    ends_late c.lay_later-m.ensures.1 c.first_word-x.ensures c.requires.0 c.requires.1 c.if-m-gt6.true

pub returns : goal.returns
returns c =
    ends_early c.lay_later-m.ensures.1 c.first_word-x.ensures c.requires.0 c.requires.1 _ c.last_of_six.ensures
    c.min.ensures c.if-m-gt6.false
