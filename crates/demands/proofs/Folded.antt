-- The boat that folds its dish and never raises it again: the moves of document 01's sheet, one by one. Assumes nothing.
use Rattle.std.proofs.Common.{Ok, Err}
use mathlib.Core.Bool.{true}
use mathlib.Core.List.{List, ◌∷◌, Memᴰ}
use mathlib.Core.Logic.{inr}
use mathlib.Core.Path.{◌≡◌, refl, sym, ap, ◌∙◌}
use Prim.Native.Nat.{ℕ, ◌^◌}
use native.Mathlib.Omega.{arith}
use borrow.Author.Tests.{eq-eqb, eqb-true}
use lib.Dec.{eqb}
use lib.ListN.{get_or}
use Rattle.products.specs.Sets.{one_if}
use Rattle.products.proofs.Bits.{power_bit}
use Rattle.products.proofs.Laws.{one_true}
use Rattle.refusals.specs.declared.Reason.TheVariants as because
use Rattle.refusals.specs.Refusal.{refusal}
use Rattle.guards.specs.Guard.{holds, parts_hold}
use Rattle.sheet.specs.Sheet.{Move}
use Rattle.running.specs.declared.RunningBox.{RunningBox}
use Rattle.running.specs.Ways.{Stands, Ends, Carries, none, more}
use Rattle.running.specs.Promise.{SetsUp, Acts}
use Rattle.running.specs.Runs.{set_up, went}
use Rattle.running.proofs.Determined.{same_sheet}
use Rattle.running.proofs.Leading.{last_move, one_more, Led, led}
use Rattle.demands.specs.Printed.{onto, bytes}
use Rattle.demands.specs.Examples.{dish_text, raise, stow, dish}
use Rattle.demands.specs.Demands.{folded, BoatFolds, BoatStaysFolded, TwelveGiven}
use Rattle.demands.proofs.Facts.{apart}
use Rattle.demands.proofs.Dish.{dish_read, has_raise, has_stow, moves_each}

-- names that begin otherwise are others
begins : {x y : List ℕ} → x ≡ y → get_or x 0 0 ≡ get_or y 0 0
begins e = ap (λ (l : List ℕ). get_or l 0 0) e

-- raise leads to state 1, and no other move has its name
raise_ends : {m : Move} → Memᴰ m dish.moves → m.action ≡ bytes "raise" → m.to ≡ 1
unfolding onto bytes
raise_ends =
    moves_each (λ m. m.action ≡ bytes "raise" → m.to ≡ 1) (λ e. refl) (λ e. absurd (omega (arith, begins e))) (λ e. absurd (omega (arith, begins e)))
    (λ e. absurd (omega (arith, begins e))) (λ e. absurd (omega (arith, begins e)))

-- stow leads to state 2, and no other move has its name
stow_ends : {m : Move} → Memᴰ m dish.moves → m.action ≡ bytes "stow" → m.to ≡ 2
unfolding onto bytes
stow_ends =
    moves_each (λ m. m.action ≡ bytes "stow" → m.to ≡ 2) (λ e. absurd (omega (arith, begins e))) (λ e. refl) (λ e. absurd (omega (arith, begins e)))
    (λ e. absurd (omega (arith, begins e))) (λ e. absurd (omega (arith, begins e)))

-- out of state 2 there is calm alone, whose guard does not hold in product 2
none_out : {m : Move} → Memᴰ m dish.moves → m.from ≡ 2 → holds m.guard 2 ≡ true → ⊥
unfolding holds parts_hold
none_out =
    moves_each (λ m. m.from ≡ 2 → holds m.guard 2 ≡ true → ⊥) (λ e h. omega arith) (λ e h. omega arith) (λ e h. apart h) (λ e h. omega arith)
    (λ e h. omega arith)

way_there : Carries dish 2 folded 2
unfolding holds parts_hold
way_there = more {m = stow} has_stow (more {m = raise} has_raise none refl) refl

only_there : {q : ℕ} → Carries dish 2 folded q → q ≡ 2
only_there c = let l = last_move c in sym l.to ∙ stow_ends l.listed l.named

no_way_on : {name : List ℕ} {q : ℕ} → Carries dish 2 (name ∷ folded) q → ⊥
no_way_on c = let l = last_move c in none_out l.listed (only_there l.before) l.makes

-- what is one state's alone is a place of one state
alone : (p k : ℕ) {P : ℕ → Type 0} → P k → ((q : ℕ) → P q → q ≡ k) → Stands (record { product = p; place = 2 ^ k }) P
alone p k here only =
    record {
      only = λ q i. rw (← eqb-true k q (one_true (eqb k q) (sym (power_bit k q) ∙ i.is))) here;
      every = λ q i. record { is = rw (only q i) (power_bit k k ∙ ap one_if (eq-eqb k k refl)) };
    }

-- the boat in one state
abbrev boat_in : ℕ → RunningBox
boat_in k = record { product = 2; place = 2 ^ k }

pub boat_folds : BoatFolds
unfolding holds parts_hold
boat_folds = (boat_in 2, went (went (set_up begun) raised) stowed)
  where
    begun : SetsUp dish_text 2 (Ok tt) (boat_in 0)
    begun = (dish, dish_read, record { valid = refl; product = refl; place = alone 2 0 refl (λ q e. e) })

    raise_end : Ends dish (boat_in 0) (bytes "raise") 1
    raise_end = record { move = raise; listed = has_raise; named = refl; from = record { is = refl }; makes = refl; to = refl }

    raised : Acts dish_text (boat_in 0) (bytes "raise") (Ok tt) (boat_in 1)
    raised =
        (dish, dish_read, record { valid = refl; some = (1, raise_end); product = refl; place = alone 2 1 raise_end (λ q e. sym e.to ∙ raise_ends e.listed e.named) })

    stow_end : Ends dish (boat_in 1) (bytes "stow") 2
    stow_end = record { move = stow; listed = has_stow; named = refl; from = record { is = refl }; makes = refl; to = refl }

    stowed : Acts dish_text (boat_in 1) (bytes "stow") (Ok tt) (boat_in 2)
    stowed =
        (dish, dish_read, record { valid = refl; some = (2, stow_end); product = refl; place = alone 2 2 stow_end (λ q e. sym e.to ∙ stow_ends e.listed e.named) })

pub boat_stays_folded : BoatStaysFolded
boat_stays_folded b run = (stands, refuses)
  where
    there : Led dish 2 folded b
    there = let (r, e, x) = led run in rw (same_sheet dish_text e dish_read) at x

    stands : Stands b (λ q. q ≡ 2)
    stands = record { only = λ q i. only_there (there.place.only q i); every = λ q e. rw e (there.place.every 2 way_there) }

    refuses : (name : List ℕ) → Acts dish_text b name (Err (refusal because.NoMove 0 0)) b
    refuses name = (
      refl,
      inr (
        dish,
        dish_read,
        inr (record {
          nineteen = refl;
          valid = rw there.product there.valid;
          nothing = λ to i. no_way_on (one_more there.product there.place i);
        }),
      ),
    )

pub twelve_given : TwelveGiven
unfolding holds parts_hold
twelve_given = (refl, inr (dish, dish_read, record { twelve = refl; invalid = refl }))
