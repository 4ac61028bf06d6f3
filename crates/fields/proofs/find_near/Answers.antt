use Rattle.std.proofs.Common.{arith, rules, below_more}
use Rattle.fields.proofs.find_near.Goals as goal

pub returns-then-s-i : goal.returns-then-s-i
returns-then-s-i c = record { high = search rules; clear = c.loop-i.invariant; here = λ l. (c.loop-i.auto.i, c.if-s-i.true) }

pub loop-i-preserved : goal.loop-i-preserved
loop-i-preserved c = below_more _ _ c.loop-i.invariant (λ h. c.if-s-i.false)

pub returns : goal.returns
returns c = record { high = search rules; clear = λ k l h. c.loop-i.invariant k (omega arith) h; here = λ l. absurd (omega arith) }
