-- `longer`: by a run without a room. Assumes nothing.
use Rattle.std.proofs.Common.{refl, inl, inr, arith}
use Rattle.calls.proofs.Desk.{for_report, outward, is_long, too_long, fits}
use Rattle.calls.proofs.longer.Goals as goal

pub returns-then-room-n : goal.returns-then-room-n
returns-then-room-n c = (refl, λ r d. inl (refl, too_long (is_long (c.put_report-n.ensures r (for_report d) (outward d c.args.spread.now.outs) d.deep)) (omega (arith, c.well_formed)) 1 (omega (arith, c.if-room-n.true))))

pub returns : goal.returns
returns c = (refl, λ r d. inr (refl, fits (is_long (c.put_report-n.ensures r (for_report d) (outward d c.args.spread.now.outs) d.deep)) (omega (arith, c.well_formed)) (omega (arith, c.if-room-n.false))))
