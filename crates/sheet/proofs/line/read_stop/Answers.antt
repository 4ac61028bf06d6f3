-- `line::read_stop` meets its contract: a law of `Moves` for each return. Assumes nothing.
use Rattle.std.proofs.Common.{◌<◌, length, arith}
use Rattle.fields.specs.Bytes.{part}
use Rattle.sheet.proofs.Lines.{passed_up}
use Rattle.sheet.proofs.Moves.{stop_wrong, stop_state, stop_refused, stop_repeat, stop_never, stop_kept}
use Rattle.sheet.proofs.line.read_stop.Goals as goal
use Rattle.sheet.proofs.line.read_stop.Goals.{Else-k-ge-MOST_STOPS}

pub returns-in_default : goal.returns-in_default
returns-in_default c = λ v m g seen st so. stop_wrong _ _ st c.in_default.is c.cut_two.ensures c.refuse.ensures

pub returns-in_default-read_state : goal.returns-in_default-read_state
unfolding part
returns-in_default-read_state c =
    λ v m g seen st so.
    stop_state _ _ st c.in-Some.is
    c.cut_two.ensures c.in_default-read_state.is
    c.read_state.ensures c.refuse-in_default-read_state.ensures

pub returns-in_err-read_guard : goal.returns-in_err-read_guard
unfolding part
returns-in_err-read_guard c =
    λ v m g seen st so.
    stop_refused _ _ st c.in-Some.is c.cut_two.ensures c.in-Some-read_state.is c.read_state.ensures so c.read_guard.ensures
    c.in_err-read_guard.was (passed_up _ _ c.from_residual.ensures.1)

pub returns-then-has_stop : goal.returns-then-has_stop
unfolding part
returns-then-has_stop c =
    λ v m g seen st so.
    stop_repeat _ _ st c.in-Some.is c.cut_two.ensures c.in-Some-read_state.is c.read_state.ensures so c.read_guard.ensures
    c.in_ok-read_guard.was c.has_stop.ensures c.if-has_stop.true c.refuse-then-has_stop.ensures

pub returns-then-k-ge-MOST_STOPS : goal.returns-then-k-ge-MOST_STOPS
unfolding part
returns-then-k-ge-MOST_STOPS c =
    λ v m g seen st so.
    stop_never _ _ st c.in-Some.is c.cut_two.ensures c.in-Some-read_state.is c.read_state.ensures so c.read_guard.ensures
    c.in_ok-read_guard.was c.has_stop.ensures c.if-has_stop.false c.if-k-ge-MOST_STOPS.true

-- both tables have a row that is free
row_free : (c : Else-k-ge-MOST_STOPS) → (c.args.c.stops < length c.args.stops.now) × (c.args.c.stops < length c.args.stop_guards.now)
row_free c =
    let few = c.if-k-ge-MOST_STOPS.false in
    let p = c.requires in
    (omega (arith, p.stops_within, p.tables_suffice.0), omega (arith, p.stops_within, p.tables_suffice.1))

pub bounds-stops-k : goal.bounds-stops-k
bounds-stops-k c = (row_free (goal.at.bounds-stops-k c).Else-k-ge-MOST_STOPS).0

pub bounds-stop_guards-k : goal.bounds-stop_guards-k
bounds-stop_guards-k c = (row_free (goal.at.bounds-stop_guards-k c).Else-k-ge-MOST_STOPS).1

pub returns : goal.returns
unfolding part
returns c =
    λ v m g seen st so.
    let free = row_free (goal.at.returns c).Else-k-ge-MOST_STOPS in
    stop_kept _ _ st c.in-Some.is c.cut_two.ensures c.in-Some-read_state.is c.read_state.ensures so c.read_guard.ensures
    c.in_ok-read_guard.was c.has_stop.ensures c.if-has_stop.false free.0 free.1
