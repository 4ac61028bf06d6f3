use Rattle.std.proofs.Common.{◌<◌, Fits, w64, arith, rules}
use Rattle.text.proofs.Laws.{wrote_long}
use Rattle.cleaning.proofs.Loops.{stops_none, stops_more, stops_pass, stops_all}
use Rattle.cleaning.proofs.Loops.{marks_rows, left_state, left_next, left_even, left_none}
use Rattle.cleaning.proofs.put_stops.Goals as goal
use Rattle.cleaning.proofs.put_stops.Goals.{In-loop-left, then-left-eq1, else-left-eq1}

low : (c : In-loop-left) → c.loop-left.q < 64
low c =
    let fits : Fits w64 c.states_at-leaves.result = search rules in
    left_state _ _ c.loop-left.invariant.1 fits.fits c.loop-left.invariant.0 c.loop-left-test.true

pub loop-left-init : goal.loop-left-init
loop-left-init c = (omega arith, omega arith, stops_none (search rules))

pub put_stop_at-next-requires : goal.put_stop_at-next-requires
put_stop_at-next-requires c = low (goal.at.put_stop_at-next-requires c).In-loop-left

pub overflow_add-q : goal.overflow_add-q
overflow_add-q c = record { fits = omega (arith, low (goal.at.overflow_add-q c).In-loop-left) }

pub loop-left-smaller : goal.loop-left-smaller
loop-left-smaller c = omega (arith, low (goal.at.loop-left-smaller c).In-loop-left)

pub loop-left-preserved : goal.loop-left-preserved
loop-left-preserved c =
    let l = low (goal.at.loop-left-preserved c).In-loop-left in
    let (few, left, laid) = c.loop-left.invariant in
    let marks = marks_rows _ c.args.desk.now.sheet.move_guards.now _ _ c.min-rows.ensures c.states_at-leaves.ensures in (
      omega arith,
      left_next _ _ left,
      elim c.if-left-eq1.branch [
        | then-left-eq1 w ↦ rw (w.room-is, w.next-is) (stops_more c.requires laid l w.put_stop_at-next.ensures)
        | else-left-eq1 w ↦ rw (w.room-is, w.next-is) (stops_pass c.requires laid l (left_even _ _ left _ _ marks l w.if-left-eq1.false))
      ],
    )

pub shape_of-room : goal.shape_of-room
shape_of-room c = wrote_long c.loop-left.invariant.2.laid

pub returns : goal.returns
returns c =
    let (few, left, laid) = c.loop-left.invariant in
    let marks = marks_rows _ c.args.desk.now.sheet.move_guards.now _ _ c.min-rows.ensures c.states_at-leaves.ensures in
    stops_all c.requires laid few (left_none _ _ left _ _ marks c.loop-left-test.false)
