-- `set_never` meets its contract. Assumes nothing.
use Rattle.guards.proofs.Meanings.{means_never}
use Rattle.guards.proofs.set_never.Goals as goal

pub returns : goal.returns
returns c = means_never
