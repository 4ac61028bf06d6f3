-- `put_state_at` meets its contract: the row of the state, with the verdict and the count over every valid product. Assumes nothing.
use Rattle.std.proofs.Common.{rules}
use Rattle.reporting.proofs.Loops.{state_laid, state_past}
use Rattle.reporting.proofs.put_state_at.Goals as goal

pub returns-then-desk-q : goal.returns-then-desk-q
returns-then-desk-q c = state_past _ (search rules) c.if-desk-q.true c.put_state.ensures

pub returns : goal.returns
returns c = state_laid _ (search rules) c.state_at-v.result c.put_state-2.ensures c.count.ensures c.state_at-v.ensures
