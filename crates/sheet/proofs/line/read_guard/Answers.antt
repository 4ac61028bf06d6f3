-- `line::read_guard` meets its contract: the guard's outcome, with the line and the place behind what stands before the guard. Assumes nothing.
use Rattle.std.proofs.Common.{arith}
use Rattle.guards.proofs.Laws.{reads_as}
use Rattle.sheet.proofs.Lines.{guard_refused, guard_taken}
use Rattle.sheet.proofs.line.read_guard.Goals as goal

pub returns-in-Ok : goal.returns-in-Ok
returns-in-Ok c = guard_taken _ _ _ (reads_as _ _ _ _ c.in-Ok.is c.read_whole.ensures)

pub overflow_add-place : goal.overflow_add-place
overflow_add-place c = omega (arith, c.in-Err.ensures)

pub returns-in-Err : goal.returns-in-Err
returns-in-Err c = guard_refused _ _ _ (reads_as _ _ _ _ c.in-Err.is c.read_whole.ensures) c.refuse.ensures
