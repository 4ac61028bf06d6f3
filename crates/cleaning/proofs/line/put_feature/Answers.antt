-- `put_feature`: its parts, one after another, are the line. Assumes nothing.
use Rattle.sheet.specs.Reading.{feature_word}
use Rattle.cleaning.proofs.Lines.{wrote_as, line_one}
use Rattle.cleaning.proofs.line.put_feature.Goals as goal

pub returns : goal.returns
returns c =
    line_one feature_word c.put_bytes-a.ensures (wrote_as c.put_bytes-b.ensures c.piece.ensures) c.put.ensures
