-- `line::read_valid` meets its contract: a law of `Lines` for each return. Assumes nothing.
use Rattle.sheet.proofs.Lines.{passed_up, valid_wrong, valid_refused, valid_kept}
use Rattle.sheet.proofs.line.read_valid.Goals as goal

pub returns-then-not-is_one : goal.returns-then-not-is_one
returns-then-not-is_one c = λ m g t h seen st so. valid_wrong _ c.is_one.result c.is_one.ensures _ st c.if-not-is_one.true c.refuse.ensures

pub returns-in_err-read_guard : goal.returns-in_err-read_guard
returns-in_err-read_guard c =
    λ m g t h seen st so.
    valid_refused _ c.is_one.result c.is_one.ensures _ st c.if-not-is_one.false so c.read_guard.ensures c.in_err-read_guard.was (passed_up _ _ c.from_residual.ensures.1)

pub returns : goal.returns
returns c =
    λ m g t h seen st so.
    valid_kept _ c.is_one.result c.is_one.ensures _ st c.if-not-is_one.false so c.read_guard.ensures c.in_ok-read_guard.was
