-- What a sheet says. Lists grow at their head: the line that was read last stands first. Assumes nothing: these are definitions.
use Rattle.std.specs.Prelude.{Bool, ◌&&◌, List, [], ◌∷◌, ℕ, ◌^◌, ltb, length}
use Rattle.guards.specs.Guard.{Guard, holds}

-- a feature line: the name, and its place, the number of bytes before it in the sheet
pub record Feature : Type 0 where
  pub name : List ℕ
  pub place : ℕ

-- a move line: its number, from, action with its place, to, guard
pub record Move : Type 0 where
  pub line : ℕ
  pub from : ℕ
  pub action : List ℕ
  pub place : ℕ
  pub to : ℕ
  pub guard : Guard

-- a stop line: its number, state, guard
pub record Stop : Type 0 where
  pub line : ℕ
  pub state : ℕ
  pub guard : Guard

pub record Sheet : Type 0 where
  pub features : List Feature
  pub valid : Guard
  pub start : ℕ
  pub moves : List Move
  pub stops : List Stop

unfoldable pub names : List Feature → List (List ℕ)
names [] = []
names (f ∷ fs) = f.name ∷ names fs

-- "A product is a number: the sum of 2^i for each feature it has": the products of n features are those below 2^n
abbrev pub is_product : Sheet → ℕ → Bool
is_product s p = ltb p (2 ^ length s.features)

-- "A product is valid if the `valid` guard holds in it."
abbrev pub is_valid : Sheet → ℕ → Bool
is_valid s p = is_product s p && holds s.valid p
