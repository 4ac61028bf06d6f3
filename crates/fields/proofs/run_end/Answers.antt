use Rattle.std.proofs.Common.{sym, ◌∙◌, arith}
use Rattle.fields.proofs.Runs.{passed_none, passed_more, passed_stop, passed_end}
use Rattle.fields.proofs.run_end.Goals as goal

pub loop-i-init : goal.loop-i-init
loop-i-init c = passed_none _ _

pub returns-then-not-is_name_byte : goal.returns-then-not-is_name_byte
returns-then-not-is_name_byte c = passed_stop c.loop-i.invariant c.loop-i-test.true (sym c.is_name_byte.ensures ∙ c.if-not-is_name_byte.true)

pub loop-i-preserved : goal.loop-i-preserved
loop-i-preserved c = passed_more c.loop-i.invariant c.loop-i-test.true (sym c.is_name_byte.ensures ∙ c.if-not-is_name_byte.false)

pub returns : goal.returns
returns c = passed_end c.loop-i.invariant (omega arith)
