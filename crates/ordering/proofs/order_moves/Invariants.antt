-- `order_moves` meets its contract. The invariant: the first places hold the rows below i in order. Assumes nothing.
use Rattle.ordering.specs.Ordering.{key_at, MadeRow, Orders}
use Rattle.ordering.proofs.order_moves.Given as goal

abbrev pub invariant-loop-i : goal.invariant-loop-i
invariant-loop-i l = Orders (key_at l.text l.moves) (MadeRow l.moves l.guards l.sets) l.i l.initial.order l.order l.ordered.kept
