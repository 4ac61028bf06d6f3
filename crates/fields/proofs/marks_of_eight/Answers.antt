-- `marks_of_eight`. The law of the marks, from what the callees promise. Assumes nothing.
use Rattle.fields.proofs.Words.{first_marked}
use Rattle.fields.proofs.marks_of_eight.Goals as goal

pub returns : goal.returns
returns c = first_marked c.eight.ensures c.from.ensures c.ranges.m.fits
