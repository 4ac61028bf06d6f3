-- `cut_four`. Each return by the law for the tabs found up to it. Assumes nothing.
use Rattle.std.proofs.Common.{arith}
use Rattle.cutting.proofs.Counted.{four_no, four_two, four_three, four_more, four_yes}
use Rattle.cutting.proofs.cut_four.Goals as goal

pub returns-in_err-first : goal.returns-in_err-first
returns-in_err-first c = rw c.from_residual.ensures (four_no c.in_err-first.ensures (omega arith))

pub returns-in_err-second : goal.returns-in_err-second
returns-in_err-second c =
    let b = c.in_ok-first.ensures in
    rw c.from_residual-in_err-second.ensures (four_two b.0 b.1 c.in_err-second.ensures (omega arith))

pub returns-in_err-third : goal.returns-in_err-third
returns-in_err-third c =
    let b = c.in_ok-first.ensures in
    let d = c.in_ok-second.ensures in
    rw c.from_residual-in_err-third.ensures (four_three b.0 b.1 d.0 d.1 c.in_err-third.ensures (omega arith))

pub returns-in-Some : goal.returns-in-Some
returns-in-Some c =
    let b = c.in_ok-first.ensures in
    let d = c.in_ok-second.ensures in
    let e = c.in_ok-third.ensures in
    four_more b.0 b.1 d.0 d.1 e.0 e.1 c.in-Some.ensures.0 c.in-Some.ensures.1

pub returns-in-None : goal.returns-in-None
returns-in-None c =
    let b = c.in_ok-first.ensures in
    let d = c.in_ok-second.ensures in
    let e = c.in_ok-third.ensures in
    four_yes b.0 b.1 d.0 d.1 e.0 e.1 c.in-None.ensures (omega arith)
