-- `read_sheet` meets its contract: 256 and 64 rows are enough for every text. Assumes nothing.
use Rattle.std.proofs.Common.{arith}
use Rattle.sheet.proofs.Whole.{blank_own, blank_sized}
use Rattle.sheet.proofs.read_sheet.Goals as goal

pub read_blank-requires : goal.read_blank-requires
read_blank-requires c =
    let e = c.clear.ensures in
    let l = blank_sized 256 256 64 64 e in
    record { tables_blank = blank_own 256 256 64 64 e; tables_suffice = (omega (arith, l.moves), omega (arith, l.move_guards), omega (arith, l.stops), omega (arith, l.stop_guards)) }

pub returns : goal.returns
returns c =
    let l = blank_sized 256 256 64 64 c.clear.ensures in
    rw (l.moves, l.move_guards, l.stops, l.stop_guards) at c.read_blank.ensures
