use Rattle.std.proofs.Common.{arith, rules}
use Rattle.fields.proofs.Found.{passed_none, passed_eight, first_later, first_near, first_none}
use Rattle.fields.proofs.find.Goals as goal

pub loop-i-init : goal.loop-i-init
loop-i-init c = passed_none _ _ _

pub returns-then-s-i-lt8 : goal.returns-then-s-i-lt8
returns-then-s-i-lt8 c = first_later c.loop-i.invariant c.find_near.ensures

pub returns-then-marks-ne0 : goal.returns-then-marks-ne0
returns-then-marks-ne0 c = first_near _ c.loop-i.invariant c.marks_of_eight-marks.ensures c.if-marks-ne0.true (search rules) (omega arith)

pub loop-i-preserved : goal.loop-i-preserved
loop-i-preserved c = passed_eight _ c.loop-i.invariant c.marks_of_eight-marks.ensures c.if-marks-ne0.false

pub returns : goal.returns
returns c = first_none c.loop-i.invariant c.loop-i-test.false
