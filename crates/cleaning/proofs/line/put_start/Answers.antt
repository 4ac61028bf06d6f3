-- `put_start`: its parts, one after another, are the line. Assumes nothing.
use Rattle.sheet.specs.Reading.{start_word}
use Rattle.cleaning.proofs.Lines.{line_one}
use Rattle.cleaning.proofs.line.put_start.Goals as goal

pub returns : goal.returns
returns c =
    line_one start_word c.put_bytes-a.ensures c.put_number-b.ensures c.put.ensures
