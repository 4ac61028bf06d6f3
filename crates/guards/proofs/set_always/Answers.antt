-- `set_always` meets its contract. Assumes nothing.
use Rattle.guards.proofs.Meanings.{means_always}
use Rattle.guards.proofs.set_always.Goals as goal

pub returns : goal.returns
returns c = means_always
