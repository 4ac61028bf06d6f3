-- `put_depth`: its parts, one after another, are the row. Assumes nothing.
use Rattle.text.proofs.Laws.{wrote_then}
use Rattle.reporting.specs.Report.{depth_row}
use Rattle.reporting.proofs.row.put_depth.Goals as goal

pub returns : goal.returns
unfolding depth_row
returns c =
    wrote_then c.put_bytes-a.ensures
    (wrote_then c.put_number-b.ensures
    c.put.ensures)
