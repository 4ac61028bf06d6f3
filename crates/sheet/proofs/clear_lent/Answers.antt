-- `clear_lent` meets its contract: each table is blank. Assumes nothing.
use Rattle.std.specs.List.{each_same}
use Rattle.sheet.proofs.Rows.{table_filled}
use Rattle.sheet.proofs.Whole.{all_blank}
use Rattle.sheet.proofs.clear_lent.Goals as goal

pub returns : goal.returns
returns c =
    all_blank (table_filled _ _ _ c.fill.ensures.len (c.fill.ensures.after (λ y h. each_same _ y h.whole)))
    (table_filled _ _ _ c.fill-2.ensures.len (c.fill-2.ensures.after (λ y h. each_same _ y h.whole)))
    (table_filled _ _ _ c.fill-3.ensures.len (c.fill-3.ensures.after (λ y h. each_same _ y h.whole)))
    (table_filled _ _ _ c.fill-4.ensures.len (c.fill-4.ensures.after (λ y h. each_same _ y h.whole)))
