-- The table of worked examples is true: each row by what Dish, Pieced and Three show of its sheet, its bytes by computing. Assumes nothing.
use Rattle.std.proofs.Common.{Some, None}
use mathlib.Core.List.{List, [], ◌∷◌, ◌++◌}
use mathlib.Core.Path.{◌≡◌, refl, subst}
use Prim.Native.Nat.{ℕ}
use Rattle.products.specs.declared.Order.{Order}
use Rattle.products.specs.Orders.{Before}
use Rattle.text.specs.Text.{digits, decimal}
use Rattle.guards.specs.Guard.{name_of, print}
use Rattle.sheet.specs.Sheet.{names}
use Rattle.verdicts.specs.declared.Verdict.TheVariants.{Dead, False, Must, May}
use Rattle.reporting.specs.Report.{found_text, word, made_of, missed_of, state_word, hidden_of, move_row, state_row, depth_row, MoveRows}
use Rattle.reporting.specs.Report as rows
use Rattle.demands.specs.Printed.{onto, bytes, printed}
use Rattle.demands.specs.Examples.{dish}
use Rattle.demands.specs.Table.{TheTable}
use Rattle.demands.proofs.Dish.{dish_read, raise_judged, stow_judged, calm_judged, level_judged, done_judged, two_hidden, two_counted, three_unreached, three_counted, dish_depth, valid_guard, stop_guard, valid_written, stop_written, two_leaves}
use Rattle.demands.proofs.Pieced.{pieced_read, all_valid, second_judged}
use Rattle.demands.proofs.Three.{three_read, zero_end, zero_counted, three_depth}

-- the five rows one behind another, as `MoveRows` makes them
five : List ℕ
five = (((([] ++ move_row 6 (False 1)) ++ move_row 7 (Must 1)) ++ move_row 8 (May 1 2)) ++ move_row 9 (Dead (Some 1))) ++ move_row 10 (Dead None)

five_printed : five ≡ printed ("move\t6\tfalse\t1\t-" ∷ "move\t7\tmust\t1\t-" ∷ "move\t8\tmay\t1\t2" ∷ "move\t9\tdead\t-\t1" ∷ "move\t10\tdead\t-\t-" ∷ [])
unfolding five onto printed digits decimal found_text word made_of missed_of move_row
five_printed = refl

five_rows : (o : Order) → MoveRows (Before o) dish dish.moves five
unfolding five
five_rows o =
    rows.next (Dead None) (done_judged o)
    (rows.next (Dead (Some 1)) (level_judged o) (rows.next (May 1 2) (calm_judged o) (rows.next (Must 1) (stow_judged o) (rows.next (False 1) (raise_judged o) rows.none))))

pub the_table : (o : Order) → TheTable o
unfolding onto bytes printed digits decimal found_text word made_of missed_of state_word hidden_of move_row state_row depth_row name_of print names
the_table o =
    record {
      sheet = dish_read;
      move_6 = record { judged = raise_judged o; row = refl };
      move_7 = record { judged = stow_judged o; row = refl };
      move_8 = record { judged = calm_judged o; row = refl };
      move_9 = record { judged = level_judged o; row = refl };
      move_10 = record { judged = done_judged o; row = refl };
      moves = subst (MoveRows (Before o) dish dish.moves) five_printed (five_rows o);
      state_2 = record { verdict = two_hidden o; counted = two_counted; row = refl };
      state_3 = record { verdict = three_unreached o; counted = three_counted; row = refl };
      depth = record { depth = dish_depth; row = refl };
      valid = record { guard = valid_guard; writes = valid_written; spelled = refl };
      stop = record { guard = stop_guard; writes = stop_written; spelled = refl };
      leaves = two_leaves;
      pieced_sheet = pieced_read;
      pieced_valid = all_valid;
      pieced_move = record { judged = second_judged o; row = refl };
      three_sheet = three_read;
      three_state = record { verdict = zero_end o; counted = zero_counted; row = refl };
      three_depth = record { depth = three_depth; row = refl };
    }
