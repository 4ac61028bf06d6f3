-- The sheet of three lines, `fts 1`, `valid 1`, `start 0`: one product, one state, no move. Assumes nothing.
use mathlib.Core.List.Memᴰ
use mathlib.Core.Path.{◌≡◌, refl}
use Prim.Native.Nat.{ℕ, ◌≤◌, ◌<◌}
use native.Mathlib.Omega.{arith}
use borrow.Author.Tests.{ltb-true}
use lib.Dec.{ltb}
use Rattle.products.specs.declared.Order.{Order}
use Rattle.products.specs.Orders.{Before}
use Rattle.fields.specs.Bytes.{same_bytes, read_state}
use Rattle.fields.specs.Cutting.{cut}
use Rattle.guards.specs.Guard.{always, holds}
use Rattle.guards.specs.Reading.{read_guard, read_whole}
use Rattle.sheet.specs.Sheet.{names}
use Rattle.sheet.specs.Reading.{kept, fts_line, valid_line, start_line, read_line, ended, read_lines, last, read_sheet}
use Rattle.sheet.specs.Reading as reading
use Rattle.family.specs.Ways.{Valid, begin, Way, none, more, Depth}
use Rattle.verdicts.specs.declared.StateVerdict.TheVariants.{End}
use Rattle.verdicts.specs.Verdicts.{ReachedIn, StateAs, Counted, nobody, counts}
use Rattle.demands.specs.Printed.{onto, printed}
use Rattle.demands.specs.Examples.{three_text, three}
use Rattle.demands.proofs.Facts.{both_true, counted_more}

pub three_read : read_sheet three_text ≡ kept three
unfolding three_text onto printed cut same_bytes read_state read_guard read_whole holds names fts_line valid_line start_line read_line reading.none ended read_lines last read_sheet
three_read = refl

-- "With no features there is one product, 0."
zero_valid : Valid three 0
unfolding holds
zero_valid = record { is = refl }

valid_zero : {p : ℕ} → Valid three p → p < 1
valid_zero {p} v = ltb-true p 1 (both_true (ltb p 1) (holds always p) v.is).0

zero_reached : ReachedIn three 0 0
zero_reached = record { valid = zero_valid; reached = begin }

pub zero_end : (o : Order) → StateAs (Before o) three 0 End
zero_end o = ((0, zero_reached), (λ m l. Memᴰ.not-nil l.there))

pub zero_counted : Counted (ReachedIn three 0) 1024 1
zero_counted = counted_more 1023 (λ p l h. omega (arith, valid_zero h.valid)) (counts zero_reached nobody)

no_moves : {p k q : ℕ} → Way three p k q → k ≤ 0
no_moves none = omega arith
no_moves (more i w h) = absurd (Memᴰ.not-nil i)

pub three_depth : Depth three 0
three_depth =
    record { largest = λ p q k v f. no_moves f.way; attained = (0, 0, zero_valid, record { way = none; fewest = λ j w. omega arith }) }
