-- `set_joined` meets its contract: the byte tells the operator. Assumes nothing.
use Rattle.guards.proofs.Meanings.{means_both, means_either}
use Rattle.guards.proofs.set_joined.Goals as goal

pub returns-then-op-eq38 : goal.returns-then-op-eq38
returns-then-op-eq38 c = means_both _ _ _ c.if-op-eq38.true c.both.ensures

pub returns : goal.returns
returns c = means_either _ _ _ c.if-op-eq38.false c.either.ensures
