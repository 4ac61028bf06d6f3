use Rattle.std.proofs.Common.{true≢false, arith}
use Rattle.members.proofs.Passed.{passed_word, some_at}
use Rattle.members.proofs.any.Goals as goal

pub returns-then-picked-ne0 : goal.returns-then-picked-ne0
returns-then-picked-ne0 c = (λ e. some_at _ c.picked.ensures c.loop-w-test.true (omega arith) c.if-picked-ne0.true, λ e. absurd (true≢false e))

pub loop-w-preserved : goal.loop-w-preserved
loop-w-preserved c = passed_word _ c.picked.ensures c.loop-w.invariant c.if-picked-ne0.false
