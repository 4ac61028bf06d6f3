-- `read_whole` meets its contract: a guard is alone in its field where it ends at the field's end. Assumes nothing.
use Rattle.guards.proofs.Returns.{whole_up, whole_more, whole_done}
use Rattle.std.proofs.Common.{arith}
use Rattle.guards.proofs.read_whole.Goals as goal

pub returns-in_default : goal.returns-in_default
returns-in_default c = whole_up _ _ _ _ c.in_default.is c.read_guard-r.ensures

pub returns-then-next-field : goal.returns-then-next-field
returns-then-next-field c = whole_more _ _ _ _ c.in-Ok.is c.read_guard-r.ensures _ (omega (arith, c.if-next-field.true)) c.refuse.ensures

pub returns : goal.returns
returns c = whole_done _ _ _ _ c.in-Ok.is c.read_guard-r.ensures c.if-next-field.false
