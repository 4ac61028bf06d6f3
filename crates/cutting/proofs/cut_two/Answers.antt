-- `cut_two`. Each return by the law for the tabs found up to it. Assumes nothing.
use Rattle.std.proofs.Common.{arith}
use Rattle.cutting.proofs.Counted.{two_no, two_more, two_yes}
use Rattle.cutting.proofs.cut_two.Goals as goal

pub returns-in_err-b : goal.returns-in_err-b
returns-in_err-b c = rw c.from_residual.ensures (two_no c.in_err-b.ensures (omega arith))

pub returns-in-Some : goal.returns-in-Some
returns-in-Some c =
    let b = c.in_ok-b.ensures in
    two_more b.0 b.1 c.in-Some.ensures.0 c.in-Some.ensures.1

pub returns-in-None : goal.returns-in-None
returns-in-None c =
    let b = c.in_ok-b.ensures in
    two_yes b.0 b.1 c.in-None.ensures (omega arith)
