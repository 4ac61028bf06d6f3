-- `row_at` meets its contract: a row that is not there has the key of a row of zeros. Assumes nothing.
use Rattle.std.proofs.Common.{◌<◌, mod-eq_of_lt, arith}
use Rattle.std.proofs.lemmas.Grind.{common_steps}
use Rattle.ordering.specs.Ordering.{key_at}
use Rattle.ordering.proofs.row_at.Goals as goal

pub returns : goal.returns
unfolding key_at
returns c = λ s. let h : c.args.i < 256 = c.requires in rw mod-eq_of_lt (grind (arith, common_steps))
