-- `report_fits`: no report is so long, or a run without a room tells its length. Assumes nothing.
use Rattle.std.proofs.Common.{refl, arith}
use Rattle.calls.proofs.Desk.{for_report, outward, is_long, never_longer, told}
use Rattle.calls.proofs.report_fits.Goals as goal

pub returns-then-room-ge-REPORT_MOST : goal.returns-then-room-ge-REPORT_MOST
returns-then-room-ge-REPORT_MOST c = (refl, λ r d. never_longer d (omega (arith, c.if-room-ge-REPORT_MOST.true)))

pub returns : goal.returns
returns c = (refl, λ r d. told c.args.order _ (is_long (c.put_report-n.ensures r (for_report d) (outward d c.args.spread.now.outs) d.deep)) (omega (arith, c.well_formed)) refl)
