-- `insert` meets its contract: what `place_of` finds is the row's place, and there `shift` puts it. Assumes nothing.
use Rattle.std.proofs.Common.{arith}
use Rattle.ordering.proofs.Places.{between_put}
use Rattle.ordering.proofs.insert.Goals as goal

pub returns : goal.returns
returns c = λ v. between_put (c.place_of-place.ensures.1 v) c.place_of-place.ensures.0 (omega arith) c.shift.ensures
