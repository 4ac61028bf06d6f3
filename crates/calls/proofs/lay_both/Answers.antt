-- `lay_both`: 11 by the clean sheet's length and then by the report's, or a run in each room where both are known to fit. Assumes nothing.
use Rattle.std.proofs.Common.{arith}
use Rattle.cleaning.proofs.Calls.{within}
use Rattle.calls.proofs.Desk.{for_report, outward, for_clean, too_long, all_fit, fit, unfit, filled, one_clean, both_long, report_long}
use Rattle.calls.proofs.lay_both.Goals as goal

pub clean_length-long-requires : goal.clean_length-long-requires
clean_length-long-requires c = within _ c.order_moves-kept.ensures

pub returns-then-min-long : goal.returns-then-min-long
returns-then-min-long c =
    λ r d.
    rw (c.refuse.ensures, c.longer-line.ensures.0)
    (both_long (c.longer-line.ensures.1 r d)
    (λ line. too_long (c.clean_length-long.ensures _ _ r (for_clean d c.order_moves-kept.ensures)) (omega (arith, c.well_formed)) line (omega (arith, c.min.ensures, c.if-min-long.true))))

pub returns-then-not-report_fits : goal.returns-then-not-report_fits
returns-then-not-report_fits c =
    λ r d. rw (c.refuse-then-not-report_fits.ensures, c.report_fits.ensures.0) (report_long (unfit (c.report_fits.ensures.1 r d) c.if-not-report_fits.true-raw 1))

pub put_clean-m-requires : goal.put_clean-m-requires
put_clean-m-requires c = record { rows_within = within _ c.order_moves-kept.ensures; outs_laid = c.args.spread.now.outs }

pub returns : goal.returns
returns c =
    λ r d.
    let report = rw c.report_fits.ensures.0 at (c.put_report-n.ensures r (for_report d) (outward d c.args.spread.now.outs) d.deep) in
    let clean = for_clean d c.order_moves-kept.ensures in
    record {
      is = (
        filled (fit (c.report_fits.ensures.1 r d) c.if-not-report_fits.false-raw) (omega arith) report,
        filled (all_fit (c.clean_length-long.ensures _ _ r clean) (omega (arith, c.well_formed)) one_clean (omega (arith, c.min.ensures, c.if-min-long.false))) (omega arith)
            (c.put_clean-m.ensures _ _ r clean),
      );
    }
