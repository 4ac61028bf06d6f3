-- `report_by_number`: what `report_in` promises, of its order. Assumes nothing.
use Rattle.calls.proofs.report_by_number.Goals as goal

pub returns : goal.returns
returns c = c.report_in.ensures
