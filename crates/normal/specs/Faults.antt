-- What a clean sheet's report does not show. Assumes nothing: these are definitions.
use mathlib.Core.List.{Memᴰ}
use Rattle.std.specs.Prelude.{ℕ}
use Rattle.sheet.specs.Sheet.{Move, Stop, Sheet}
use Rattle.verdicts.specs.Verdicts.{DeadMove, FalseOptional, LeadsOut, Stuck, UntrueIn}

-- no move is dead, none false optional, no state with a move line a hidden deadlock, no stop line untrue
pub record Faultless (r : Sheet) : Type 0 where
  pub dead : (m : Move) → Memᴰ m r.moves → DeadMove r m → ⊥
  pub false_optional : (m : Move) → Memᴰ m r.moves → FalseOptional r m → ⊥
  pub hidden : (q p : ℕ) (m : Move) → LeadsOut r q m → Stuck r q p → ⊥
  pub untrue : (d : Stop) (p : ℕ) → Memᴰ d r.stops → UntrueIn r d p → ⊥
