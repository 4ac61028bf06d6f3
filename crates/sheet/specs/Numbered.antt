-- Line numbers. A sheet that is read has at most 65,536 bytes, and each line has one at least. Assumes nothing: these are definitions.
use Rattle.std.specs.Prelude.{List, [], ◌∷◌, ℕ, ◌≤◌}
use Rattle.sheet.specs.Sheet.{Move, Stop, Sheet}

abbrev pub MovesTo : ℕ → List Move → Type 0
MovesTo b [] = Unit {0}
MovesTo b (m ∷ ms) = (m.line ≤ b) × MovesTo b ms

abbrev pub StopsTo : ℕ → List Stop → Type 0
StopsTo b [] = Unit {0}
StopsTo b (d ∷ ds) = (d.line ≤ b) × StopsTo b ds

-- the lines of the sheet's moves and stops have numbers of at most b
pub record LinesTo (b : ℕ) (r : Sheet) : Type 0 where
  pub moves : MovesTo b r.moves
  pub stops : StopsTo b r.stops
