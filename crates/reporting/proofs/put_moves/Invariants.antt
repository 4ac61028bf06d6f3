-- `put_moves` meets its contract: the rows laid so far are those of the first i moves, whatever sheet the tables stand for. Assumes nothing.
use Rattle.products.specs.Orders.{Before}
use Rattle.reporting.specs.Laying.{ReadyOn}
use Rattle.reporting.proofs.Loops.{Laid, MovesUpto}
use Rattle.reporting.proofs.put_moves.Given as goal

abbrev pub invariant-loop-i : goal.invariant-loop-i
invariant-loop-i l =
    Laid (ReadyOn l.desk) (MovesUpto (Before l.order)) l.initial.room l.at l.i l.room l.next
