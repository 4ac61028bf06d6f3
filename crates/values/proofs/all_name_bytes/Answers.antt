use Rattle.values.proofs.Names.{found_none, found_more, found_all}
use Rattle.values.proofs.all_name_bytes.Goals as goal

pub loop-b-init : goal.loop-b-init
loop-b-init c = found_none _

pub loop-b-preserved : goal.loop-b-preserved
loop-b-preserved c = found_more c.loop-b.invariant c.loop-b-test.true c.is_name_byte-good.ensures

pub returns : goal.returns
returns c = found_all c.loop-b.invariant c.loop-b-test.false
