-- `set_choice` meets its contract. Assumes nothing.
use Rattle.guards.proofs.Meanings.{means_choice}
use Rattle.guards.proofs.set_choice.Goals as goal

pub returns : goal.returns
returns c = means_choice _ _ _ _ c.choice.ensures
