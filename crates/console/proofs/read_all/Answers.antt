-- `read_all`: at the end of the input the text so far is the whole one. Assumes nothing.
use Rattle.console.proofs.Sofar.{sofar_held}
use Rattle.console.proofs.read_all.Goals as goal

pub returns-in_default-clause-held : goal.returns-in_default-clause-held
returns-in_default-clause-held g c = sofar_held c.loop.invariant (rw c.in_default.is at c.in_ok-next.ensures.came).0 c.min.ensures
