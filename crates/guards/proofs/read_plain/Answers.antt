-- `read_plain` meets its contract: each return is one law of Returns. Assumes nothing.
use Rattle.std.proofs.Common.{sym, ◌∙◌, arith}
use Rattle.guards.proofs.Returns.{guard_always, guard_fault, guard_named, guard_never}
use Rattle.guards.proofs.read_plain.Goals as goal

pub returns-then-b-eq48 : goal.returns-then-b-eq48
returns-then-b-eq48 c left h2 h3 = guard_never _ _ _ _ (omega arith) _ c.if-b-eq48.true c.set_never.ensures

pub returns-then-b-eq49 : goal.returns-then-b-eq49
returns-then-b-eq49 c left h2 h3 = guard_always _ _ _ _ (omega arith) _ c.if-b-eq49.true c.set_always.ensures

pub returns-then-not-is_letter : goal.returns-then-not-is_letter
returns-then-not-is_letter c left h2 h3 = guard_fault _ _ _ _ (omega arith) c.if-b-eq48.false c.if-b-eq49.false h2 h3 _ _ (sym c.is_letter.ensures ∙ c.if-not-is_letter.true) c.refuse.ensures

pub returns : goal.returns
returns c left h2 h3 = guard_named _ _ _ _ (omega arith) c.if-b-eq48.false c.if-b-eq49.false h2 h3 c.read_name.result _ (sym c.is_letter.ensures ∙ c.if-not-is_letter.false) c.read_name.ensures
