-- `report_and_clean`: the job's promise, as it is. Assumes nothing.
use Rattle.calls.proofs.report_and_clean.Goals as goal

pub returns : goal.returns
returns c = c.serve.ensures.is
