use native.Mathlib.Omega.{arith}
use Rattle.running.proofs.Gathering.{gathered_none, gathered_more, gathered_all}
use borrow.Author.Rules.{rules}
use Rattle.running.proofs.ends.Goals as goal

pub loop-i-init : goal.loop-i-init
loop-i-init c = (search rules, gathered_none)

pub loop-i-preserved : goal.loop-i-preserved
loop-i-preserved c = (search rules, gathered_more c.loop-i.invariant.1 c.with_row-place.ensures)

pub returns : goal.returns
returns c = gathered_all c.loop-i.invariant.1 (omega arith)
