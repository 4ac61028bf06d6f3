-- `line::read_line` meets its contract: the line is that of its kind, and its reader has read it. Assumes nothing.
use Rattle.std.proofs.Common.{refl, arith}
use Rattle.fields.specs.Bytes.{part}
use Rattle.sheet.proofs.Lines.{refuses}
use Rattle.sheet.proofs.Whole.{line_alone, line_of, rest_lies}
use Rattle.sheet.proofs.line.read_line.Goals as goal

pub returns-then-l-w : goal.returns-then-l-w
unfolding part
returns-then-l-w c = λ st so. refuses c.refuse.ensures (line_alone _ c.find-w.ensures _ _ st c.if-l-w.true)

pub overflow_add-next : goal.overflow_add-next
unfolding part
overflow_add-next c =
    let z = (rest_lies _ _ _ c.requires.line_within.0
    c.requires.line_within.1 _ c.if-l-w.false).within in
    omega arith

pub overflow_add-next-2 : goal.overflow_add-next-2
unfolding part
overflow_add-next-2 c =
    let z = (rest_lies _ _ _ c.requires.line_within.0
    c.requires.line_within.1 _ c.if-l-w.false).within in
    omega arith

pub read_feature-requires : goal.read_feature-requires
unfolding part
read_feature-requires c =
    (rest_lies _ _ _ c.requires.line_within.0
    c.requires.line_within.1 _
    c.if-l-w.false).within

pub read_move-requires : goal.read_move-requires
unfolding part
read_move-requires c =
    let p = c.requires in
    let z = (rest_lies _ _ _ p.line_within.0 p.line_within.1 _ c.if-l-w.false).within in
    record { rest_within = (z, omega (arith, z, p.line_within.2)); tables_suffice = (p.tables_suffice.0, p.tables_suffice.1) }

pub read_stop-requires : goal.read_stop-requires
unfolding part
read_stop-requires c =
    let p = c.requires in
    let z = (rest_lies _ _ _ p.line_within.0 p.line_within.1 _ c.if-l-w.false).within in
    record { stops_within = omega (arith, z, p.line_within.2); tables_suffice = (p.tables_suffice.2, p.tables_suffice.3) }

pub returns-in-Fts : goal.returns-in-Fts
unfolding part
returns-in-Fts c =
    λ st so.
    line_of _ c.find-w.ensures _ _ st
    c.if-l-w.false so.section c.line_kind.ensures
    c.in-Fts.is (c.read_fts.ensures _ _ _ st so)

pub returns-in-Feature : goal.returns-in-Feature
unfolding part
returns-in-Feature c =
    λ st so.
    line_of _ c.find-w.ensures _ _ st
    c.if-l-w.false so.section c.line_kind.ensures
    c.in-Feature.is
    (c.read_feature.ensures _ _ _ _ _ _ st so
    (rest_lies _ _ _ c.requires.line_within.0
    c.requires.line_within.1 _
    c.if-l-w.false))

pub returns-in-Valid : goal.returns-in-Valid
unfolding part
returns-in-Valid c =
    λ st so.
    line_of _ c.find-w.ensures _ _ st
    c.if-l-w.false so.section
    c.line_kind.ensures c.in-Valid.is
    (c.read_valid.ensures _ _ _ _ _ st so)

pub returns-in-Start : goal.returns-in-Start
unfolding part
returns-in-Start c =
    λ st so.
    line_of _ c.find-w.ensures _ _ st
    c.if-l-w.false so.section c.line_kind.ensures
    c.in-Start.is (c.read_start.ensures _ _ _ st so)

pub returns-in-Move : goal.returns-in-Move
unfolding part
returns-in-Move c =
    λ st so.
    line_of _ c.find-w.ensures _ _ st
    c.if-l-w.false so.section
    c.line_kind.ensures
    c.in-Move.is
    (c.read_move.ensures _ _ _ st so
    (rest_lies _ _ _
    c.requires.line_within.0
    c.requires.line_within.1 _
    c.if-l-w.false))

pub returns-in-Stop : goal.returns-in-Stop
unfolding part
returns-in-Stop c =
    λ st so.
    line_of _ c.find-w.ensures _ _ st
    c.if-l-w.false so.section
    c.line_kind.ensures
    c.in-Stop.is
    (c.read_stop.ensures _ _ _ _ st so)

pub returns-in-Misplaced : goal.returns-in-Misplaced
unfolding part
returns-in-Misplaced c =
    λ st so.
    line_of _ c.find-w.ensures _ _ st
    c.if-l-w.false so.section c.line_kind.ensures
    c.in-Misplaced.is (refuses c.refuse-in-Misplaced.ensures refl)
