-- `line::read_move` meets its contract: a law of `Moves` for each return, and the fields' places for the rest. Assumes nothing.
use Rattle.std.proofs.Common.{arith}
use Rattle.fields.specs.Bytes.{part}
use Rattle.sheet.proofs.Lines.{passed_up}
use Rattle.sheet.proofs.Moves.{guard_fits, action_fits, action_lies, move_wrong, move_full, move_bad, move_on}
use Rattle.sheet.proofs.line.read_move.Goals as goal

pub returns-in_default : goal.returns-in_default
returns-in_default c = λ v t h st so lies. move_wrong _ _ _ st c.in_default.is c.cut_four.ensures
    c.refuse.ensures

pub returns-then-c-ge-MOST_MOVES : goal.returns-then-c-ge-MOST_MOVES
returns-then-c-ge-MOST_MOVES c =
    λ v t h st so lies.
    move_full _ _ _ st so c.in-Some.is c.cut_four.ensures
    (omega (arith, c.if-c-ge-MOST_MOVES.true)) c.refuse-then-c-ge-MOST_MOVES.ensures

pub returns-in_err-t : goal.returns-in_err-t
unfolding part
returns-in_err-t c =
    λ v t h st so lies.
    move_bad _ _ _ st so c.in-Some.is
    c.cut_four.ensures
    c.if-c-ge-MOST_MOVES.false c.read_triple.ensures
    c.in_err-t.was (passed_up _ _ c.from_residual.ensures.1)

pub keep_move-requires : goal.keep_move-requires
unfolding part
keep_move-requires c =
    let few = c.if-c-ge-MOST_MOVES.false in
    let p = c.requires in (
      action_fits _
          c.in-Some.is
          c.cut_four.ensures _ _
          p.rest_within.0,
      few,
      omega (arith, p.rest_within.1, p.tables_suffice.0),
      omega (arith, p.rest_within.1, p.tables_suffice.1),
      guard_fits _ c.in-Some.is c.cut_four.ensures _ _ p.rest_within.0,
    )

pub returns : goal.returns
unfolding part
returns c =
    λ v t h st so lies.
    move_on _ _ _ st so
    c.in-Some.is
    c.cut_four.ensures
    c.if-c-ge-MOST_MOVES.false
    c.read_triple.ensures
    c.in_ok-t.was
    (c.keep_move.ensures v t h st so
    (action_lies _
    c.in-Some.is
    c.cut_four.ensures
    lies))
