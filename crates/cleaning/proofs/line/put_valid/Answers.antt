-- `put_valid`: its parts, one after another, are the line. Assumes nothing.
use Rattle.sheet.specs.Reading.{valid_word}
use Rattle.cleaning.proofs.Lines.{line_one}
use Rattle.cleaning.proofs.line.put_valid.Goals as goal

pub returns : goal.returns
returns c =
    line_one valid_word c.put_bytes-a.ensures c.put_guard-b.ensures c.put.ensures
