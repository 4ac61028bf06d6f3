-- `put_move`: its parts, one after another, are the line, with the guard that `put_made` lays. Assumes nothing.
use Rattle.text.proofs.Laws.{wrote_long}
use Rattle.cleaning.proofs.Lines.{wrote_as, move_line_lem}
use Rattle.cleaning.proofs.line.put_move.Goals as goal

pub returns : goal.returns
returns c =
    move_line_lem _ c.put_bytes-a.ensures c.put_number-b.ensures c.put-c.ensures (wrote_as c.put_bytes-d.ensures c.piece.ensures) c.put-e.ensures c.put_number-f.ensures c.put-g.ensures c.put_made-h.ensures
    c.put.ensures

pub shape_of-room : goal.shape_of-room
shape_of-room c = wrote_long (returns c).2
