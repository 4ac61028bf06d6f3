-- `line::keep_move` meets its contract: a law of `Moves` for each return. Assumes nothing.
use Rattle.sheet.proofs.Lines.{passed_up}
use Rattle.sheet.proofs.Moves.{move_refused, move_repeat, move_kept}
use Rattle.sheet.proofs.line.keep_move.Goals as goal

pub returns-in_err-read_guard : goal.returns-in_err-read_guard
returns-in_err-read_guard c =
    λ v t h st so lies.
    move_refused _ _ st _ _ _ _ _ so c.read_guard.ensures c.in_err-read_guard.was (passed_up _ _ c.from_residual.ensures.1)

pub returns-then-is_repeat : goal.returns-then-is_repeat
returns-then-is_repeat c =
    λ v t h st so lies.
    move_repeat _ _ st _ _ _ _ _ so c.read_guard.ensures c.in_ok-read_guard.was c.is_repeat.ensures c.if-is_repeat.true c.refuse.ensures

pub returns : goal.returns
returns c =
    λ v t h st so lies.
    move_kept _ _ st _ _ _ _ _ so c.read_guard.ensures c.in_ok-read_guard.was c.is_repeat.ensures c.if-is_repeat.false
    c.requires.1 c.requires.2 c.requires.3 lies
