-- `row::has_move` meets its contract. The invariant: whether a move of the whole list has this from, action and to is whether one of the
-- first i has. Assumes nothing.
use Rattle.std.proofs.Common.{min, [], length, get_or}
use Rattle.sheet.specs.Reading.{moved}
use Rattle.sheet.specs.Tables.{MoveRow}
use Rattle.sheet.proofs.Looking.{Looked}
use Rattle.sheet.proofs.row.has_move.Given as goal

abbrev pub invariant-loop-i : goal.invariant-loop-i
invariant-loop-i l = Looked (λ k m. MoveRow l.text (get_or l.moves k []) m) (moved l.from l.action l.to) (min l.count (length l.moves)) l.i
