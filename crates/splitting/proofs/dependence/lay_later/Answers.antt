use native.Mathlib.Omega.{arith}
use Rattle.splitting.proofs.Ends.{later_none, later_all}
use Rattle.splitting.proofs.dependence.lay_later.Goals as goal

pub returns-then-n-le6 : goal.returns-then-n-le6
returns-then-n-le6 c = later_none c.requires.1 (omega arith) c.requires.2

pub returns : goal.returns
returns c =
    later_all c.loop-w.invariant c.loop-w-test.false c.last_of_ten.ensures.1 c.last_of_ten.ensures.0 c.min.ensures
    c.if-n-le6.false c.requires.0
