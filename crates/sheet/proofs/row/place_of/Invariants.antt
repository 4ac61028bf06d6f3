-- `row::place_of` meets its contract. The invariant: h is what the bytes from i on mix to, and i is not below the place of the
-- last three. Assumes nothing.
use Rattle.std.proofs.Common.{◌+◌, ◌*◌, ◌%◌}
use Rattle.sheet.proofs.Marks.{Mixed}
use Rattle.sheet.proofs.row.place_of.Given as goal

abbrev pub invariant-loop-i : goal.invariant-loop-i
invariant-loop-i l = Mixed (l.from % 64 * 128 + l.to % 64) l.action l.low l.h l.i
