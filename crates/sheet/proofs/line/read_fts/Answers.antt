-- `line::read_fts` meets its contract: a law of `Lines` for each return. Assumes nothing.
use Rattle.sheet.proofs.Lines.{fts_wrong, fts_other, fts_kept}
use Rattle.sheet.proofs.line.read_fts.Goals as goal

pub returns-then-not-is_one : goal.returns-then-not-is_one
returns-then-not-is_one c = λ s T seen st so. fts_wrong _ c.is_one.result c.is_one.ensures _ st c.if-not-is_one.true c.refuse.ensures

pub returns-then-not-same_bytes : goal.returns-then-not-same_bytes
returns-then-not-same_bytes c =
    λ s T seen st so.
    fts_other _ c.is_one.result c.is_one.ensures _ st
    c.if-not-is_one.false c.same_bytes.ensures c.if-not-same_bytes.true c.refuse-then-not-same_bytes.ensures

pub returns : goal.returns
returns c =
    λ s T seen st so.
    fts_kept _ c.is_one.result c.is_one.ensures _ st so
    c.if-not-is_one.false c.same_bytes.ensures c.if-not-same_bytes.false
