-- `lay_clean`: the ordered rows are there; the first run tells the length, and the second lays the text or 11 is given. Assumes nothing.
use Rattle.std.proofs.Common.{refl, arith}
use Rattle.calls.proofs.Desk.{for_clean, too_long, all_fit, filled, one_clean}
use Rattle.cleaning.proofs.Calls.{within}
use Rattle.calls.proofs.lay_clean.Goals as goal

pub clean_length-long-requires : goal.clean_length-long-requires
clean_length-long-requires c = within _ c.order_moves-kept.ensures

pub returns-then-min-long : goal.returns-then-min-long
returns-then-min-long c = λ r d. rw c.refuse.ensures (record { is = (refl, too_long (c.clean_length-long.ensures _ _ r (for_clean d c.order_moves-kept.ensures)) (omega (arith, c.well_formed)) 0 (omega (arith, c.min.ensures, c.if-min-long.true))) })

pub put_clean-n-requires : goal.put_clean-n-requires
put_clean-n-requires c = record { rows_within = within _ c.order_moves-kept.ensures; outs_laid = c.args.spread.now.outs }

pub returns : goal.returns
returns c = λ r d. record { is = filled (all_fit (c.clean_length-long.ensures _ _ r (for_clean d c.order_moves-kept.ensures)) (omega (arith, c.well_formed)) one_clean (omega (arith, c.min.ensures, c.if-min-long.false))) (omega arith) (c.put_clean-n.ensures _ _ r (for_clean d c.order_moves-kept.ensures)) }
