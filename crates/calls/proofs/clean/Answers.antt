-- `clean`: the job's promise, told by its first length. Assumes nothing.
use Rattle.calls.proofs.clean.Goals as goal

pub returns : goal.returns
returns c = rw c.first_of.ensures c.serve-a.ensures.is
