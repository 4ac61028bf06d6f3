-- `lay_report`: 11, or a run in the room where the report is known to fit. Assumes nothing.
use Rattle.std.proofs.Common.{arith}
use Rattle.calls.proofs.Desk.{for_report, outward, fit, unfit, filled}
use Rattle.calls.proofs.lay_report.Goals as goal

pub returns-then-not-report_fits : goal.returns-then-not-report_fits
returns-then-not-report_fits c = λ r d. rw c.refuse.ensures (record { is = (c.report_fits.ensures.0, unfit (c.report_fits.ensures.1 r d) c.if-not-report_fits.true-raw 0) })

pub returns : goal.returns
returns c =
    λ r d.
    let laid = rw c.report_fits.ensures.0 at (c.put_report-n.ensures r (for_report d) (outward d c.args.spread.now.outs) d.deep) in
    record { is = filled (fit (c.report_fits.ensures.1 r d) c.if-not-report_fits.false-raw) (omega arith) laid }
