-- `last_of_ten` meets its contract: from the last feature down, the words that have no bit. Assumes nothing.
use native.Mathlib.Omega.{arith}
use Rattle.splitting.proofs.Ends.{gone_nine, gone_eight, gone_seven, gone_six, gone_within}
use Rattle.splitting.proofs.dependence.last_of_ten.Goals as goal

pub returns-then-table-gt0 : goal.returns-then-table-gt0
returns-then-table-gt0 c = (omega arith, gone_within (gone_nine _ c.if-a-table-gt0.false) (omega arith))

pub returns-then-table-gt0-2 : goal.returns-then-table-gt0-2
returns-then-table-gt0-2 c =
    (omega arith, gone_within (gone_eight _ (gone_nine _ c.if-a-table-gt0.false) c.if-table-gt0.false) (omega arith))

pub returns-then-table-gt0-3 : goal.returns-then-table-gt0-3
returns-then-table-gt0-3 c =
    (omega arith, gone_within (gone_seven _ (gone_eight _ (gone_nine _ c.if-a-table-gt0.false) c.if-table-gt0.false) c.if-table-gt0-2.false) (omega arith))

pub returns : goal.returns
returns c =
    let gone = gone_seven _ (gone_eight _ (gone_nine _ c.if-a-table-gt0.false) c.if-table-gt0.false) c.if-table-gt0-2.false in
    (omega arith, gone_within (gone_six _ gone c.if-table-gt0-3.false) (omega arith))
