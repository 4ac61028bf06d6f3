-- `read_blank` meets its contract: what `read_lines` answers, and blank tables behind a refusal. Assumes nothing.
use Rattle.std.proofs.Common.{sym, ◌∙◌, arith}
use Rattle.sheet.proofs.Whole.{own_sized, sheet_long, sheet_empty, sheet_open, sheet_refused, sheet_kept}
use Rattle.sheet.proofs.read_blank.Goals as goal

pub returns-then-text-gt-MOST_BYTES : goal.returns-then-text-gt-MOST_BYTES
returns-then-text-gt-MOST_BYTES c = sheet_long _ (own_sized _) c.requires.tables_blank (omega (arith, c.if-text-gt-MOST_BYTES.true)) c.refuse.ensures

pub returns-then-text-eq0 : goal.returns-then-text-eq0
returns-then-text-eq0 c = sheet_empty _ (own_sized _) c.requires.tables_blank c.if-text-eq0.true c.refuse-then-text-eq0.ensures

pub returns-then-text-ne-LINE_END : goal.returns-then-text-ne-LINE_END
returns-then-text-ne-LINE_END c = sheet_open _ (own_sized _) c.if-text-gt-MOST_BYTES.false c.if-text-eq0.false c.requires.tables_blank c.if-text-ne-LINE_END.true c.refuse-then-text-ne-LINE_END.ensures

pub read_lines-r-requires : goal.read_lines-r-requires
read_lines-r-requires c =
    record { blank_and_ended = (c.requires.tables_blank, c.if-text-ne-LINE_END.false); tables_suffice = c.requires.tables_suffice }

pub returns-then-is_err : goal.returns-then-is_err
returns-then-is_err c =
    sheet_refused _
    (record {
      moves = c.clear_lent.auto.moves ∙ c.read_lines-r.auto.moves;
      move_guards = c.clear_lent.auto.move_guards ∙ c.read_lines-r.auto.move_guards;
      stops = c.clear_lent.auto.stops ∙ c.read_lines-r.auto.stops;
      stop_guards = c.clear_lent.auto.stop_guards ∙ c.read_lines-r.auto.stop_guards;
    })
    c.if-text-gt-MOST_BYTES.false c.if-text-eq0.false c.if-text-ne-LINE_END.false c.read_lines-r.ensures (sym c.is_err.ensures.value ∙ c.if-is_err.true) c.clear_lent.ensures

pub returns-else-is_err : goal.returns-else-is_err
returns-else-is_err c =
    sheet_kept _ (record { moves = c.read_lines-r.auto.moves; move_guards = c.read_lines-r.auto.move_guards; stops = c.read_lines-r.auto.stops; stop_guards = c.read_lines-r.auto.stop_guards })
    c.if-text-gt-MOST_BYTES.false c.if-text-eq0.false c.if-text-ne-LINE_END.false c.read_lines-r.ensures (sym c.is_err.ensures.value ∙ c.if-is_err.false)
