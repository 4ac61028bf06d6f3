-- `line::read_start` meets its contract: a law of `Lines` for each return. Assumes nothing.
use Rattle.sheet.proofs.Lines.{start_wrong, start_bad, start_kept}
use Rattle.sheet.proofs.line.read_start.Goals as goal

pub returns-then-not-is_one : goal.returns-then-not-is_one
returns-then-not-is_one c = λ s T seen st so. start_wrong _ c.is_one.result c.is_one.ensures _ st c.if-not-is_one.true c.refuse.ensures

pub returns-in_default : goal.returns-in_default
returns-in_default c =
    λ s T seen st so.
    start_bad _ c.is_one.result c.is_one.ensures _ st
    c.if-not-is_one.false c.in_default.is c.read_state.ensures
    c.refuse-in_default.ensures

pub returns : goal.returns
returns c =
    λ s T seen st so.
    start_kept _ c.is_one.result c.is_one.ensures _ st so
    c.if-not-is_one.false c.in-Some.is c.read_state.ensures
