use Rattle.std.proofs.Common.{refl, ◌∙◌, arith}
use Rattle.sheet.proofs.Lines.{passed_up}
use Rattle.sheet.proofs.Whole.{going_start, line_ends, going_refused, going_on, going_done}
use Rattle.sheet.proofs.read_lines.Goals as goal

pub loop-at-init : goal.loop-at-init
loop-at-init c = (going_start c.default-c.result c.default-c.ensures c.requires.blank_and_ended.0 c.requires.blank_and_ended.1, refl, refl, refl, refl)

pub read_line-requires : goal.read_line-requires
read_line-requires c =
    let z = line_ends c.loop-at.invariant.0
    c.loop-at-test.true
    c.find-end.ensures in
    let y = c.loop-at.invariant in
    let light = y.0.light in
    let p = c.requires.tables_suffice in
    record { line_within = (z.0, omega arith, light); tables_suffice = (omega (arith, y.1, p.0), omega (arith, y.2, p.1), omega (arith, y.3, p.2), omega (arith, y.4, p.3)) }

pub returns-in_err-c : goal.returns-in_err-c
returns-in_err-c c =
    going_refused
    c.loop-at.invariant.0
    c.loop-at-test.true
    c.find-end.ensures
    c.read_line.ensures c.in_err-c.was (passed_up _ _ c.from_residual.ensures.1)

pub overflow_add-at : goal.overflow_add-at
overflow_add-at c =
    let z = line_ends
    c.loop-at.invariant.0
    c.loop-at-test.true
    c.find-end.ensures in
    omega arith

pub overflow_add-number : goal.overflow_add-number
overflow_add-number c =
    let z = line_ends
    c.loop-at.invariant.0
    c.loop-at-test.true
    c.find-end.ensures in
    let y = c.loop-at.invariant.0.few in
    omega arith

pub loop-at-smaller : goal.loop-at-smaller
loop-at-smaller c =
    let z = line_ends
    c.loop-at.invariant.0
    c.loop-at-test.true
    c.find-end.ensures in
    omega arith

pub loop-at-preserved : goal.loop-at-preserved
loop-at-preserved c =
    let y = c.loop-at.invariant in (
      going_on y.0
          c.loop-at-test.true
          c.find-end.ensures
          c.read_line.ensures c.in_ok-c.was,
      c.read_line.auto.moves ∙ y.1,
      c.read_line.auto.move_guards ∙ y.2,
      c.read_line.auto.stops ∙ y.3,
      c.read_line.auto.stop_guards ∙ y.4,
    )

pub returns : goal.returns
returns c = going_done c.loop-at.invariant.0 c.loop-at-test.false (c.finish.ensures _ _ _ _ _ _ _)
