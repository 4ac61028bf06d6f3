-- `is_action`. Each return by the law for the test that led to it. Assumes nothing.
use Rattle.std.proofs.Common.{arith}
use Rattle.values.proofs.Names.{action_short, action_long, action_good}
use Rattle.values.proofs.is_action.Goals as goal

pub returns-then-s-lt1 : goal.returns-then-s-lt1
returns-then-s-lt1 c = action_short _ (omega arith)

pub returns-then-s-gt24 : goal.returns-then-s-gt24
returns-then-s-gt24 c = action_long _ (omega arith)

pub returns : goal.returns
returns c = action_good _ c.all_name_bytes.ensures (omega arith) (omega arith)
