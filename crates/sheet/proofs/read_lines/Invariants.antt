-- `read_lines` meets its contract. The invariant: the tables and marks stand for what the lines so far say, and what is left to read from there is
-- what all lines read as. The measure is what is left of the bytes. Assumes nothing.
use Rattle.std.proofs.Common.{◌≡◌, ◌-◌, length}
use Rattle.sheet.specs.Tables.{tables}
use Rattle.sheet.proofs.Whole.{Going}
use Rattle.sheet.proofs.read_lines.Given as goal

abbrev pub invariant-loop-at : goal.invariant-loop-at
invariant-loop-at l = Going l.text (tables l.names l.valid l.moves l.move_guards l.stops l.stop_guards) l.seen l.c l.number l.at
    × (length l.moves ≡ length l.initial.moves) × (length l.move_guards ≡ length l.initial.move_guards) × (length l.stops ≡ length l.initial.stops) ×
    (length l.stop_guards ≡ length l.initial.stop_guards)

abbrev pub decreases-loop-at : goal.decreases-loop-at
decreases-loop-at l = length l.text - l.at
