-- `look` meets its contract: the tables are blank and have rows enough for every text, and it is what the reader promises. Assumes nothing.
use Rattle.std.proofs.Common.{◌≡◌, refl, List, ℕ, replicate, arith}
use Rattle.sheet.specs.Tables.{tables, blank_tables}
use Rattle.sheet.proofs.Whole.{blank_own, blank_sized}
use Rattle.running.proofs.look.Goals as goal

blank_lent : {v : List ℕ} {m g : List (List ℕ)} → v ≡ replicate 16 0 → m ≡ replicate 256 (replicate 5 0) → g ≡ replicate 256 (replicate 16 0)
    → tables (replicate 10 (replicate 2 0)) v m g (replicate 64 (replicate 2 0)) (replicate 64 (replicate 16 0)) ≡ blank_tables 256 256 64 64
blank_lent a b e = rw (a, b, e) refl

pub read_blank-requires : goal.read_blank-requires
read_blank-requires c =
    let e = blank_lent c.requires.valid_blank c.requires.moves_blank c.requires.guards_blank in
    let l = blank_sized 256 256 64 64 e in
    record { tables_blank = blank_own 256 256 64 64 e; tables_suffice = (omega (arith, l.moves), omega (arith, l.move_guards), omega (arith, l.stops), omega (arith, l.stop_guards)) }

pub returns : goal.returns
returns c =
    let l = blank_sized 256 256 64 64 (blank_lent c.requires.valid_blank c.requires.moves_blank c.requires.guards_blank) in
    (_, _, _, rw (l.moves, l.move_guards, l.stops, l.stop_guards) at c.read_blank.ensures)
