-- `put_state`: its parts, one after another, are the row. Assumes nothing.
use Rattle.text.proofs.Laws.{wrote_then}
use Rattle.reporting.specs.Report.{state_row}
use Rattle.reporting.proofs.row.put_state.Goals as goal

pub returns : goal.returns
unfolding state_row
returns c =
    wrote_then c.put_bytes-a.ensures
    (wrote_then c.put_number-b.ensures
    (wrote_then (rw c.state_word_of.ensures at c.put_bytes-c.ensures)
    (wrote_then c.put_number-d.ensures
    (wrote_then c.put-e.ensures
    (wrote_then (rw c.hidden_of.ensures at c.put_found-f.ensures)
    c.put.ensures)))))
