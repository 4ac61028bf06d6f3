-- `row::has_stop` meets its contract. The invariant: whether a stop of the whole list is for the state is whether one of the first i is.
-- Assumes nothing.
use Rattle.std.proofs.Common.{min, [], length, get_or}
use Rattle.sheet.specs.Reading.{stopped}
use Rattle.sheet.specs.Tables.{StopRow}
use Rattle.sheet.proofs.Looking.{Looked}
use Rattle.sheet.proofs.row.has_stop.Given as goal

abbrev pub invariant-loop-i : goal.invariant-loop-i
invariant-loop-i l = Looked (λ k d. StopRow (get_or l.stops k []) d) (stopped l.state) (min l.count (length l.stops)) l.i
