-- `read_name` meets its contract: the run of name bytes is the name, and its feature's set is laid. Assumes nothing.
use Rattle.std.proofs.Common.{arith}
use Rattle.guards.proofs.Returns.{name_known, name_unknown}
use Rattle.guards.proofs.read_name.Goals as goal

pub returns-in_default : goal.returns-in_default
returns-in_default c t = name_unknown _ _ _ (omega arith) c.run_end-e.ensures c.find_name.ensures _ _ c.in_default.is c.refuse.ensures

pub returns : goal.returns
returns c t = name_known _ _ _ (omega arith) c.run_end-e.ensures c.find_name.ensures _ t c.in-Some.is c.lay_feature.ensures
