-- `put_report`: its four parts, one after another, are the report. Assumes nothing.
use Rattle.reporting.proofs.Calls.{whole_report}
use Rattle.reporting.proofs.put_report.Goals as goal

pub returns : goal.returns
returns c = λ r ready out deep. whole_report (c.put_moves-a.ensures r ready) (c.put_states-b.ensures r ready out) (c.put_stops-c.ensures r ready out) deep c.put_depth.ensures
