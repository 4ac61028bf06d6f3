-- `with_row` meets its contract: one law for each test that fails, and one where the row leads somewhere. Assumes nothing.
use Rattle.running.proofs.Gathering.{row_elsewhere, row_unmade, row_other, row_leads}
use Rattle.running.proofs.with_row.Goals as goal

pub returns-then-not-has : goal.returns-then-not-has
returns-then-not-has c = row_elsewhere c.has.ensures c.if-not-has.true-raw

pub returns-then-not-has-2 : goal.returns-then-not-has-2
returns-then-not-has-2 c = row_unmade c.has-2.ensures c.if-not-has-2.true-raw

pub returns-then-not-same_bytes : goal.returns-then-not-same_bytes
returns-then-not-same_bytes c = row_other c.piece-name.ensures c.same_bytes.ensures c.if-not-same_bytes.true-raw

pub returns : goal.returns
returns c =
    row_leads c.has.ensures c.if-not-has.false-raw c.has-2.ensures c.if-not-has-2.false-raw c.piece-name.ensures c.same_bytes.ensures c.if-not-same_bytes.false-raw c.with_state.ensures
