-- What each product does, by triples of from, action and to: a triple comes on one move line at most, so it stands for its move. And when two sheets
-- behave alike. Assumes nothing: these are definitions.
use mathlib.Core.List.{List, Memᴰ}
use Rattle.std.specs.Prelude.{◌≡◌, ℕ}
use Rattle.sheet.specs.Sheet.{Move, Sheet}
use Rattle.family.specs.Ways.{Valid}
use Rattle.verdicts.specs.Verdicts.{Makes}

-- the product p makes the move from f by the action a to t
pub record Goes (r : Sheet) (p f : ℕ) (a : List ℕ) (t : ℕ) : Type 0 where
  pub move : Move
  pub there : Memᴰ move r.moves
  pub from : move.from ≡ f
  pub action : move.action ≡ a
  pub to : move.to ≡ t
  pub makes : Makes r p move

-- "both allow the same products, start alike and let each product make the same moves"
pub record Same (r s : Sheet) : Type 0 where
  pub valid : (p : ℕ) → Valid r p → Valid s p
  pub valid_back : (p : ℕ) → Valid s p → Valid r p
  pub start : r.start ≡ s.start
  pub moves : (p f : ℕ) (a : List ℕ) (t : ℕ) → Valid r p → Goes r p f a t → Goes s p f a t
  pub moves_back : (p f : ℕ) (a : List ℕ) (t : ℕ) → Valid r p → Goes s p f a t → Goes r p f a t
