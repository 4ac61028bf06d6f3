-- "A way pieced together from several products. With feature a, all valid, 0 to 1 under `a` and 1 to 2 under `!a`: the second move is dead (made `-`,
-- missed 1)." A product that gets beyond state 0 has the feature a, and the second move wants that it has not. Assumes nothing.
use Rattle.std.proofs.Common.{Some}
use mathlib.Core.Bool.{Bool, true, false, not}
use mathlib.Core.List.Memᴰ
use mathlib.Core.Path.{◌≡◌, refl}
use Prim.Native.Nat.{ℕ, zero, suc, ◌≤◌, ◌<◌}
use native.Mathlib.Omega.{arith}
use borrow.Author.Tests.{ltb-true}
use lib.Dec.{ltb}
use Rattle.products.specs.declared.Order.{Order}
use Rattle.products.specs.Orders.{Before}
use Rattle.products.proofs.Ordered.{before_self}
use Rattle.fields.specs.Bytes.{same_bytes, all_name_bytes, is_name, is_action, read_state, run, after_run}
use Rattle.fields.specs.Cutting.{cut}
use Rattle.guards.specs.Guard.{always, feature, holds}
use Rattle.guards.specs.Reading.{number, parts, read_guard, read_whole}
use Rattle.sheet.specs.Sheet.{names}
use Rattle.sheet.specs.Reading.{kept, fts_line, feature_line, valid_line, start_line, guarded_move, move_line, moved, read_line, ended, read_lines, last, read_sheet}
use Rattle.sheet.specs.Reading as reading
use Rattle.family.specs.Ways.{Valid, Reached, begin, by}
use Rattle.verdicts.specs.declared.Verdict.TheVariants.{Dead}
use Rattle.verdicts.specs.Verdicts.{Makes, MissedIn, JudgedAs}
use Rattle.demands.specs.Printed.{onto, bytes, printed}
use Rattle.demands.specs.Examples.{pieced_text, first, second, pieced}
use Rattle.demands.proofs.Facts.{apart, each, both_true}

pub pieced_read : read_sheet pieced_text ≡ kept pieced
unfolding pieced_text onto bytes printed cut same_bytes all_name_bytes is_name is_action read_state run after_run number parts read_guard read_whole holds names fts_line feature_line valid_line start_line guarded_move move_line moved read_line reading.none ended read_lines last read_sheet
pieced_read = refl

zero_valid : Valid pieced 0
unfolding holds
zero_valid = record { is = refl }

one_valid : Valid pieced 1
unfolding holds
one_valid = record { is = refl }

-- "all valid"
pub all_valid : (p : ℕ) → p < 2 → Valid pieced p
all_valid zero l = zero_valid
all_valid (suc zero) l = one_valid
all_valid (suc (suc p)) l = absurd (omega arith)

-- only a product with the feature a gets beyond state 0
beyond : {p q : ℕ} → Reached pieced p q → 0 < q → holds (feature 0) p ≡ true
beyond begin l = absurd (omega arith)
beyond {p} (by {m} i w h) l =
    each (λ m. holds m.guard p ≡ true → (0 < m.from → holds (feature 0) p ≡ true) → 0 < m.to → holds (feature 0) p ≡ true)
    ((λ h far l. far (omega arith)), ((λ h far l. h), tt)) i h (λ l. beyond w l) l

unmade : {p : ℕ} → Makes pieced p second → ⊥
unfolding holds
unmade {p} m = clash (holds (feature 0) p) (beyond m.reached (omega arith)) m.held
  where
    clash : (b : Bool) → b ≡ true → not b ≡ true → ⊥
    clash true e f = apart f
    clash false e f = apart e

reached_one : Reached pieced 1 1
unfolding holds
reached_one = by {m = first} (Memᴰ.tail (Memᴰ.head refl)) begin refl

-- product 0 does not reach state 1
missed_later : (q : ℕ) → MissedIn pieced second q → 1 ≤ q
unfolding holds
missed_later zero h = absurd (apart (beyond h.reached (omega arith)))
missed_later (suc q) h = omega arith

-- so the one that misses the move is 1, in either order
missed_first : (o : Order) (q : ℕ) → MissedIn pieced second q → Before o 1 q
missed_first o q h =
    let small = ltb-true q 2 (both_true (ltb q 2) (holds always q) h.valid.is).0 in
    let e : q ≡ 1 = omega (arith, missed_later q h) in
    rw e (before_self o 1)

pub second_judged : (o : Order) → JudgedAs (Before o) pieced second (Dead (Some 1))
second_judged o = ((λ p h. unmade h.makes), record { is = record { valid = one_valid; reached = reached_one; unmade = unmade }; first = missed_first o })
