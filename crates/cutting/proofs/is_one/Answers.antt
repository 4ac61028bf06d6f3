-- `is_one`. There is one field exactly if no tab is found. Assumes nothing.
use Rattle.cutting.proofs.Counted.{one_told}
use Rattle.cutting.proofs.is_one.Goals as goal

pub returns : goal.returns
returns c = one_told _ _ _ c.is_none.ensures c.tab.ensures
