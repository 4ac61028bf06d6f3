-- `put_stop`: a law of `Lines` for each return. Assumes nothing.
use Rattle.std.proofs.Common.{arith, rules}
use Rattle.sheet.specs.Reading.{stop_word}
use Rattle.cleaning.specs.Inside.{StopAt}
use Rattle.cleaning.proofs.Lines.{line_two, no_stop, stop_stays}
use Rattle.cleaning.proofs.line.put_stop.Goals as goal

pub returns-then-not-meets : goal.returns-then-not-meets
returns-then-not-meets c = no_stop _ (StopAt.dead (c.meets.ensures.1 c.if-not-meets.true)) (search rules)

pub returns-then-not-exceeds : goal.returns-then-not-exceeds
returns-then-not-exceeds c = no_stop _ (StopAt.leaving (c.exceeds.ensures.1 c.if-not-exceeds.true)) (search rules)

pub returns : goal.returns
returns c =
    stop_stays
    _
    (c.meets.ensures.0 c.if-not-meets.false)
    (c.exceeds.ensures.0 c.if-not-exceeds.false)
    _
    c.without-stays.ensures
    (omega arith)
    (line_two stop_word c.put_bytes-a.ensures c.put_number-b.ensures c.put-c.ensures c.put_guard-d.ensures c.put.ensures)
