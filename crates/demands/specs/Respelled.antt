-- Guards are functions: when two sheets differ in nothing but how their guards are spelled. Assumes nothing: these are definitions.
use Rattle.std.specs.Prelude.{true, List, [], ◌∷◌, ◌≡◌, ℕ}
use Rattle.guards.specs.Guard.{Guard, holds}
use Rattle.sheet.specs.Sheet.{Move, Stop, Sheet, is_product}

-- the guards g and h hold in the same products, valid or not
abbrev pub SameProducts : Sheet → Guard → Guard → Type 0
SameProducts r g h = (p : ℕ) → is_product r p ≡ true → holds g p ≡ holds h p

-- the same line but for its guard; where an action stands in the sheet hangs on the guards before it, and so is left out
pub record MoveAlike (r : Sheet) (m k : Move) : Type 0 where
  pub line : m.line ≡ k.line
  pub from : m.from ≡ k.from
  pub action : m.action ≡ k.action
  pub to : m.to ≡ k.to
  pub guard : SameProducts r m.guard k.guard

pub record StopAlike (r : Sheet) (d e : Stop) : Type 0 where
  pub line : d.line ≡ e.line
  pub state : d.state ≡ e.state
  pub guard : SameProducts r d.guard e.guard

-- two lists that are alike line for line
pub data Paired {A : Type 0} (P : A → A → Type 0) : List A → List A → Type 0 where
  none : Paired P [] []
  next : {x y : A} {xs ys : List A} → P x y → Paired P xs ys → Paired P (x ∷ xs) (y ∷ ys)

-- the same feature lines and the same start; the `valid` guards, and line for line the guards of moves and stops, hold in the same products
pub record Respelled (r q : Sheet) : Type 0 where
  pub features : r.features ≡ q.features
  pub valid : SameProducts r r.valid q.valid
  pub start : r.start ≡ q.start
  pub moves : Paired (MoveAlike r) r.moves q.moves
  pub stops : Paired (StopAlike r) r.stops q.stops
