-- `put_stop`: its parts, one after another, are the row. Assumes nothing.
use Rattle.text.proofs.Laws.{wrote_then}
use Rattle.reporting.specs.Report.{stop_row}
use Rattle.reporting.proofs.row.put_stop.Goals as goal

pub returns : goal.returns
unfolding stop_row
returns c =
    wrote_then c.put_bytes-a.ensures
    (wrote_then c.put_number-b.ensures
    (wrote_then (rw c.stop_word_of.ensures at c.put_bytes-c.ensures)
    (wrote_then (rw c.untrue_of.ensures at c.put_found-d.ensures)
    c.put.ensures)))
