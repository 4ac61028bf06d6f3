-- `report_in`: the job's promise, told by its first length. Assumes nothing.
use Rattle.calls.proofs.report_in.Goals as goal

pub returns : goal.returns
returns c = rw c.first_of.ensures c.serve-a.ensures.is
