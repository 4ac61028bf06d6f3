-- `set_not` meets its contract: what is left of all products. Assumes nothing.
use Rattle.guards.proofs.Meanings.{means_neg}
use Rattle.guards.proofs.set_not.Goals as goal

pub returns : goal.returns
returns c = means_neg _ _ _ c.set_always.ensures c.without.ensures
