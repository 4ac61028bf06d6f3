-- The worked example of document 01, "One sheet in full": what is true of its sheet, by hand. Products 1, 2 and 3 are valid; in each of them
-- states 0, 1 and 2 are reached, by as many moves at least, and no other state, since the guard of `level` never holds. Assumes nothing.
use Rattle.std.proofs.Common.{Some, None}
use mathlib.Core.Bool.{true}
use mathlib.Core.List.Memᴰ
use mathlib.Core.List.{Memᴰ}
use mathlib.Core.Path.{◌≡◌, refl}
use Prim.Native.Nat.{ℕ, zero, suc, ◌≤◌, ◌<◌}
use native.Mathlib.Omega.{arith}
use borrow.Author.Tests.{ltb-true}
use lib.Dec.{eqb, ltb}
use Rattle.products.specs.Sets.{bit}
use Rattle.fields.specs.Bytes.{same_bytes, all_name_bytes, is_name, is_action, read_state, run, after_run}
use Rattle.fields.specs.Cutting.{cut}
use Rattle.products.specs.declared.Order.{Order}
use Rattle.products.specs.declared.Order.TheVariants.{Plainest, ByNumber}
use Rattle.products.specs.Orders.{bits, fewer, as_many, Before}
use Rattle.guards.specs.Guard.{Guard, never, always, feature, choice, holds, parts_hold}
use Rattle.guards.specs.Reading.{number, parts, read_guard, read_whole}
use Rattle.sheet.specs.Sheet.{Move, names}
use Rattle.sheet.specs.Reading.{kept, fts_line, feature_line, valid_line, start_line, guarded_move, move_line, moved, read_line, ended, read_lines, last, read_sheet}
use Rattle.sheet.specs.Reading as reading
use Rattle.family.specs.Ways.{Valid, Reached, begin, by, Way, none, more, Fewest, Depth}
use Rattle.family.proofs.Steps.{way_reached}
use Rattle.verdicts.specs.declared.Verdict.TheVariants.{Dead, False, Must, May}
use Rattle.verdicts.specs.declared.StateVerdict.TheVariants.{Unreached, Hidden}
use Rattle.verdicts.specs.Verdicts.{Makes, MadeIn, MissedIn, HoldsInEvery, FailsInSome, JudgedAs, LeadsOut, Stuck, ReachedIn, StateAs, Counted, nobody, counts, passes}
use Rattle.splitting.specs.Splitting.{all, guard_of, Writes}
use Rattle.normal.specs.Behaviour.{Goes}
use Rattle.normal.specs.Clean.{count, Stays, Leaves}
use Rattle.demands.specs.Printed.{onto, bytes, printed}
use Rattle.demands.specs.Examples.{dish_text, gauge_or_boat, boat_and_not, raise, stow, calm, level, done, dish}
use Rattle.demands.proofs.Facts.{apart, both_true, never_both, each, counted_more}

-- ---- the sheet

pub dish_read : read_sheet dish_text ≡ kept dish
unfolding dish_text onto bytes printed cut same_bytes all_name_bytes is_name is_action read_state run after_run number parts read_guard read_whole holds parts_hold names fts_line feature_line valid_line start_line guarded_move move_line moved read_line reading.none ended read_lines last read_sheet
dish_read = refl

-- ---- its moves, and its valid products

pub has_raise : Memᴰ raise dish.moves
has_raise = Memᴰ.tail (Memᴰ.tail (Memᴰ.tail (Memᴰ.tail (Memᴰ.head refl))))

pub has_stow : Memᴰ stow dish.moves
has_stow = Memᴰ.tail (Memᴰ.tail (Memᴰ.tail (Memᴰ.head refl)))

has_calm : Memᴰ calm dish.moves
has_calm = Memᴰ.tail (Memᴰ.tail (Memᴰ.head refl))

valid_one : Valid dish 1
unfolding holds parts_hold
valid_one = record { is = refl }

valid_two : Valid dish 2
unfolding holds parts_hold
valid_two = record { is = refl }

valid_three : Valid dish 3
unfolding holds parts_hold
valid_three = record { is = refl }

invalid_zero : Valid dish 0 → ⊥
unfolding holds parts_hold
invalid_zero v = apart v.is

valid_parts : {p : ℕ} → Valid dish p → (p < 4) × (holds gauge_or_boat p ≡ true)
valid_parts {p} v = let h = both_true (ltb p 4) (holds gauge_or_boat p) v.is in (ltb-true p 4 h.0, h.1)

-- what is true of 0, 1, 2 and 3 is true of every product, and what is true of 1, 2 and 3 is true of every valid one
below_four : (P : ℕ → Type 0) → P 0 → P 1 → P 2 → P 3 → (p : ℕ) → p < 4 → P p
below_four P a b c d zero l = a
below_four P a b c d (suc zero) l = b
below_four P a b c d (suc (suc zero)) l = c
below_four P a b c d (suc (suc (suc zero))) l = d
below_four P a b c d (suc (suc (suc (suc p)))) l = absurd (omega arith)

valid_each : (P : ℕ → Type 0) → P 1 → P 2 → P 3 → (p : ℕ) → Valid dish p → P p
valid_each P b c d p v = below_four (λ q. Valid dish q → P q) (λ w. absurd (invalid_zero w)) (λ w. b) (λ w. c) (λ w. d) p (valid_parts v).0 v

-- ---- its ways

level_never : (p : ℕ) → holds boat_and_not p ≡ true → ⊥
unfolding holds parts_hold
level_never p h = never_both (eqb (bit p 1) 1) h

way_one : {p : ℕ} → Valid dish p → Way dish p 1 1
way_one {p} v = more {m = raise} has_raise none (valid_parts v).1

way_two : {p : ℕ} → Valid dish p → Way dish p 2 2
unfolding holds
way_two {p} v = more {m = stow} has_stow (way_one v) refl

reached_one : {p : ℕ} → Valid dish p → Reached dish p 1
reached_one {p} v = by {m = raise} has_raise begin (valid_parts v).1

reached_two : {p : ℕ} → Valid dish p → Reached dish p 2
unfolding holds
reached_two {p} v = by {m = stow} has_stow (reached_one v) refl

-- what is true of the five moves is true of every move of the sheet
pub moves_each : (P : Move → Type 0) → P raise → P stow → P calm → P level → P done → {m : Move} → Memᴰ m dish.moves → P m
moves_each P a b c d e i = each P (e, (d, (c, (b, (a, tt))))) i

-- a way to q has q moves at least
way_long : {p k q : ℕ} → Way dish p k q → q ≤ k
way_long none = omega arith
way_long {p} (more {k} {m} i w h) =
    moves_each (λ m. holds m.guard p ≡ true → m.from ≤ k → m.to ≤ suc k) (λ h l. omega arith) (λ h l. omega arith) (λ h l. omega arith)
    (λ h l. absurd (level_never p h)) (λ h l. omega arith) i h (way_long w)

-- no state but 0, 1 and 2 is reached
reached_low : {p q : ℕ} → Reached dish p q → q ≤ 2
reached_low begin = omega arith
reached_low {p} (by {m} i w h) =
    moves_each (λ m. holds m.guard p ≡ true → m.to ≤ 2) (λ h. omega arith) (λ h. omega arith) (λ h. omega arith) (λ h. absurd (level_never p h))
    (λ h. omega arith) i h

unreached_three : {p : ℕ} → Reached dish p 3 → ⊥
unreached_three w = omega (arith, reached_low w)

-- ---- the verdicts on its moves

raise_made : {p : ℕ} → Valid dish p → MadeIn dish raise p
raise_made v = record { valid = v; makes = record { reached = begin; held = (valid_parts v).1 } }

stow_made : {p : ℕ} → Valid dish p → MadeIn dish stow p
unfolding holds
stow_made v = record { valid = v; makes = record { reached = reached_one v; held = refl } }

-- a valid product with the gauge makes `calm`; product 2 has none
calm_made : {p : ℕ} → Valid dish p → holds (feature 0) p ≡ true → MadeIn dish calm p
calm_made v h = record { valid = v; makes = record { reached = reached_two v; held = h } }

calm_in_one : MadeIn dish calm 1
unfolding holds
calm_in_one = calm_made valid_one refl

calm_in_three : MadeIn dish calm 3
unfolding holds
calm_in_three = calm_made valid_three refl

calm_unmade : Makes dish 2 calm → ⊥
unfolding holds
calm_unmade m = apart m.held

-- product 0 has neither feature; it is not valid
chain_fails : FailsInSome dish gauge_or_boat
unfolding holds
chain_fails = (0, refl, refl)

one_holds : HoldsInEvery dish always
unfolding holds
one_holds p e = refl

-- in either order its valid products stand as 1, 2, 3
one_first : (o : Order) (q : ℕ) → Valid dish q → Before o 1 q
unfolding bits
one_first Plainest = valid_each (Before Plainest 1) (as_many refl (omega arith)) (as_many refl (omega arith)) (fewer (omega arith))
one_first ByNumber = valid_each (Before ByNumber 1) (omega arith) (omega arith) (omega arith)

two_next : (o : Order) → Before o 2 2 × Before o 2 3
unfolding bits
two_next Plainest = (as_many refl (omega arith), fewer (omega arith))
two_next ByNumber = (omega arith, omega arith)

pub raise_judged : (o : Order) → JudgedAs (Before o) dish raise (False 1)
raise_judged o = (
  record { alive = (1, raise_made valid_one); fails = chain_fails; every = λ p v w. (raise_made v).makes },
  record { is = raise_made valid_one; first = λ q h. one_first o q h.valid },
)

pub stow_judged : (o : Order) → JudgedAs (Before o) dish stow (Must 1)
stow_judged o = (one_holds, record { is = stow_made valid_one; first = λ q h. one_first o q h.valid })

pub calm_judged : (o : Order) → JudgedAs (Before o) dish calm (May 1 2)
calm_judged o = (
  record { is = calm_in_one; first = λ q h. one_first o q h.valid },
  record { is = record { valid = valid_two; reached = reached_two valid_two; unmade = calm_unmade }; first = λ q h. later q h.valid h },
)
  where
    later : (q : ℕ) → Valid dish q → MissedIn dish calm q → Before o 2 q
    later = valid_each (λ q. MissedIn dish calm q → Before o 2 q) (λ h. absurd (h.unmade calm_in_one.makes)) (λ h. (two_next o).0) (λ h. (two_next o).1)

pub level_judged : (o : Order) → JudgedAs (Before o) dish level (Dead (Some 1))
level_judged o = (
  (λ p h. level_never p h.makes.held),
  record { is = record { valid = valid_one; reached = reached_one valid_one; unmade = λ m. level_never 1 m.held }; first = λ q h. one_first o q h.valid },
)

pub done_judged : (o : Order) → JudgedAs (Before o) dish done (Dead None)
done_judged o = ((λ p h. unreached_three h.makes.reached), (λ q h. unreached_three h.reached))

-- ---- states 2 and 3

-- product 2 makes no move out of state 2
two_makes_none : (m : Move) → Memᴰ m dish.moves → m.from ≡ 2 → Makes dish 2 m → ⊥
two_makes_none m i =
    moves_each (λ m. m.from ≡ 2 → Makes dish 2 m → ⊥) (λ e h. omega arith) (λ e h. omega arith) (λ e h. calm_unmade h) (λ e h. omega arith)
    (λ e h. omega arith) i

calm_leads_out : LeadsOut dish 2 calm
calm_leads_out = record { there = has_calm; source = refl }

pub two_hidden : (o : Order) → StateAs (Before o) dish 2 (Hidden 2)
two_hidden o = (
  (calm, calm_leads_out),
  record {
    is = record {
      valid = valid_two;
      reached = reached_two valid_two;
      makes_none = λ m l h. two_makes_none m l.there l.source h;
      undeclared = λ d i. absurd (Memᴰ.not-nil i);
    };
    first = λ q h. later q h.valid h;
  },
)
  where
    later : (q : ℕ) → Valid dish q → Stuck dish 2 q → Before o 2 q
    later =
        valid_each (λ q. Stuck dish 2 q → Before o 2 q) (λ h. absurd (h.makes_none calm calm_leads_out calm_in_one.makes)) (λ h. (two_next o).0)
        (λ h. (two_next o).1)

two_reached : {p : ℕ} → Valid dish p → ReachedIn dish 2 p
two_reached v = record { valid = v; reached = reached_two v }

pub two_counted : Counted (ReachedIn dish 2) 1024 3
two_counted =
    counted_more 1020 (λ p l h. omega (arith, (valid_parts h.valid).0))
    (counts (two_reached valid_three) (counts (two_reached valid_two) (counts (two_reached valid_one) (passes (λ h. invalid_zero h.valid) nobody))))

pub three_unreached : (o : Order) → StateAs (Before o) dish 3 Unreached
three_unreached o p h = unreached_three h.reached

pub three_counted : Counted (ReachedIn dish 3) 1024 0
three_counted = counted_more 1024 (λ p l h. unreached_three h.reached) nobody

-- ---- the depth

pub dish_depth : Depth dish 2
dish_depth =
    record { largest = λ p q k v f. far p v q k (way_reached f.way) f; attained = (1, 2, valid_one, record { way = way_two valid_one; fewest = λ j w. way_long w }) }
  where
    far : (p : ℕ) → Valid dish p → (q k : ℕ) → Reached dish p q → Fewest dish p q k → k ≤ 2
    far p v zero k w f = omega (arith, f.fewest 0 none)
    far p v (suc zero) k w f = omega (arith, f.fewest 1 (way_one v))
    far p v (suc (suc zero)) k w f = f.fewest 2 (way_two v)
    far p v (suc (suc (suc q))) k w f = absurd (omega (arith, reached_low w))

-- ---- the guards of its clean sheet

-- (gauge?1:(boat?1:0))
abbrev pub valid_guard : Guard
valid_guard = choice (feature 0) always (choice (feature 1) always never)

-- (gauge?0:(boat?1:0))
abbrev pub stop_guard : Guard
stop_guard = choice (feature 0) never (choice (feature 1) always never)

pub valid_written : Writes (count dish) (Valid dish) valid_guard
unfolding holds all guard_of
valid_written =
    record {
      form = refl;
      only = below_four (λ p. holds valid_guard p ≡ true → Valid dish p) (λ e. absurd (apart e)) (λ e. valid_one) (λ e. valid_two) (λ e. valid_three);
      every = λ p l. valid_each (λ p. holds valid_guard p ≡ true) refl refl refl p;
    }

two_stays : Stays dish 2 2
two_stays = record { valid = valid_two; reached = reached_two valid_two; none = λ a t g. two_makes_none g.move g.there g.from g.makes }

calm_goes : {p : ℕ} → MadeIn dish calm p → Goes dish p 2 (bytes "calm") 1
calm_goes h = record { move = calm; there = has_calm; from = refl; action = refl; to = refl; makes = h.makes }

pub stop_written : Writes (count dish) (Stays dish 2) stop_guard
unfolding holds all guard_of
stop_written =
    record {
      form = refl;
      only = below_four (λ p. holds stop_guard p ≡ true → Stays dish 2 p) (λ e. absurd (apart e)) (λ e. absurd (apart e)) (λ e. two_stays) (λ e. absurd (apart e));
      every =
          λ p l h.
          valid_each (λ p. Stays dish 2 p → holds stop_guard p ≡ true) (λ h. absurd (h.none (bytes "calm") 1 (calm_goes calm_in_one))) (λ h. refl)
          (λ h. absurd (h.none (bytes "calm") 1 (calm_goes calm_in_three))) p h.valid h;
    }

-- a move out of state 2 is kept, so that it gets a stop line
pub two_leaves : Leaves dish 2
two_leaves = record { action = bytes "calm"; to = 1; kept = record { product = 1; made = record { valid = valid_one; goes = calm_goes calm_in_one } } }
