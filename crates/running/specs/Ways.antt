-- What a box does: its place, the ends of a name's moves, and the ways that carry names. Assumes nothing: these are definitions.
use Rattle.std.specs.Prelude.{true, ◌≡◌, ℕ}
use mathlib.Core.List.{List, [], ◌∷◌, Memᴰ}
use Rattle.products.specs.Sets.{bit}
use Rattle.guards.specs.Guard.{holds}
use Rattle.sheet.specs.Sheet.{Move, Sheet}
use Rattle.running.specs.declared.RunningBox.{RunningBox}

-- the box's place is a set of states, state q as bit q: q is one of them
pub record At (b : RunningBox) (q : ℕ) : Type 0 where
  pub is : bit b.place q ≡ 1

-- the box's place is exactly the states that have the property P
pub record Stands (b : RunningBox) (P : ℕ → Type 0) : Type 0 where
  pub only : (q : ℕ) → At b q → P q
  pub every : (q : ℕ) → P q → At b q

-- "the ends of that name's moves which the product makes from the place": q is such an end
pub record Ends (r : Sheet) (b : RunningBox) (name : List ℕ) (q : ℕ) : Type 0 where
  pub move : Move
  pub listed : Memᴰ move r.moves
  pub named : move.action ≡ name
  pub from : At b move.from
  pub makes : holds move.guard b.product ≡ true
  pub to : move.to ≡ q

-- "the ways that carry the names": q is the end of a way of the product p, from the start, by moves whose guards all hold in p and whose actions are
-- these names. The last name stands first, as the last line does in the lists of a sheet.
pub data Carries (r : Sheet) (p : ℕ) : List (List ℕ) → ℕ → Type 0 where
  none : Carries r p [] r.start
  more : {names : List (List ℕ)} {m : Move} → Memᴰ m r.moves → Carries r p names m.from → holds m.guard p ≡ true
      → Carries r p (m.action ∷ names) m.to
