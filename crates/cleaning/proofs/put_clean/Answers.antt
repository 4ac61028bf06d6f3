-- `put_clean`: its parts, one after another, are the text of a form, and that is the clean form of the sheet that the tables stand for. Assumes nothing.
use Rattle.std.proofs.Common.{◌∙◌}
use Rattle.text.proofs.Laws.{wrote_long}
use Rattle.cleaning.proofs.Whole.{whole_clean, lays}
use Rattle.cleaning.proofs.put_clean.Goals as goal

pub put_moves-e-requires : goal.put_moves-e-requires
put_moves-e-requires c = c.requires.rows_within

pub put_stops-requires : goal.put_stops-requires
put_stops-requires c = c.requires.outs_laid

pub shape_of-room : goal.shape_of-room
shape_of-room c =
    wrote_long c.put_stops.ensures.2
    ∙ wrote_long c.put_moves-e.ensures.2
    ∙ wrote_long c.put_start-d.ensures
    ∙ wrote_long c.put_valid-c.ensures
    ∙ wrote_long c.put_features-b.ensures
    ∙ wrote_long c.put_bytes-a.ensures

pub returns : goal.returns
returns c = λ t h r prepared.
    lays prepared (whole_clean c.put_bytes-a.ensures c.put_features-b.ensures c.put_valid-c.ensures c.put_start-d.ensures c.put_moves-e.ensures c.put_stops.ensures t h)
