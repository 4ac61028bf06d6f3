-- What every accepted sheet is: the limits of the format, no repeats, and a valid product. Assumes nothing: these are definitions.
use Rattle.std.specs.Prelude.{true, false, List, [], ◌∷◌, ◌≡◌, ℕ, ◌≤◌, length}
use Rattle.fields.specs.Bytes.{is_action}
use Rattle.guards.specs.Guard.{Guard, Declared, nesting}
use Rattle.guards.specs.Reading.{GoodNames}
use Rattle.sheet.specs.Sheet.{Move, Stop, Sheet, names, is_valid}
use Rattle.sheet.specs.Reading.{moved, stopped}

-- a guard over the first n features, nested 32 deep at most
pub record GoodGuard (n : ℕ) (g : Guard) : Type 0 where
  pub declared : Declared g n
  pub nested : nesting g ≤ 32

pub record GoodMove (n : ℕ) (m : Move) : Type 0 where
  pub from : m.from ≤ 63
  pub action : is_action m.action ≡ true
  pub to : m.to ≤ 63
  pub guard : GoodGuard n m.guard

-- good moves, and no triple of from, action and to twice
abbrev pub GoodMoves : ℕ → List Move → Type 0
GoodMoves n [] = Unit {0}
GoodMoves n (m ∷ ms) = GoodMove n m × (moved m.from m.action m.to ms ≡ false) × GoodMoves n ms

pub record GoodStop (n : ℕ) (d : Stop) : Type 0 where
  pub state : d.state ≤ 63
  pub guard : GoodGuard n d.guard

-- good stops, and no state twice
abbrev pub GoodStops : ℕ → List Stop → Type 0
GoodStops n [] = Unit {0}
GoodStops n (d ∷ ds) = GoodStop n d × (stopped d.state ds ≡ false) × GoodStops n ds

pub record Accepted (s : Sheet) : Type 0 where
  pub few_features : length s.features ≤ 10
  pub names : GoodNames (names s.features)
  pub valid : GoodGuard (length s.features) s.valid
  pub start : s.start ≤ 63
  pub few_moves : length s.moves ≤ 256
  pub moves : GoodMoves (length s.features) s.moves
  pub stops : GoodStops (length s.features) s.stops
  pub allowed : (p : ℕ) × (is_valid s p ≡ true)
