-- The table of document 01, "Proved together as a single table: the five move rows, states 2 and 3, the depth, the `valid` and `stop` guards above,
-- the pieced-together way, and the sheet `fts 1`, `valid 1`, `start 0`". Each field is a statement over `read_sheet` and the definitions of the
-- verdicts, under a comment with the row as 01 prints it; the rows are the same in either order. Assumes nothing: these are definitions.
use Rattle.std.specs.Prelude.{[], ◌∷◌, ◌≡◌, ℕ, ◌<◌, Some, None}
use Prim.Native.String.{String}
use Rattle.products.specs.declared.Order.{Order}
use Rattle.products.specs.Orders.{Before}
use Rattle.guards.specs.Guard.{Guard, print}
use Rattle.sheet.specs.Sheet.{Move, Sheet, names}
use Rattle.sheet.specs.Reading.{kept, read_sheet}
use Rattle.family.specs.Ways.{Valid, Depth}
use Rattle.verdicts.specs.declared.Verdict.{Verdict}
use Rattle.verdicts.specs.declared.Verdict.TheVariants.{Dead, False, Must, May}
use Rattle.verdicts.specs.declared.StateVerdict.{StateVerdict}
use Rattle.verdicts.specs.declared.StateVerdict.TheVariants.{Unreached, End, Hidden}
use Rattle.verdicts.specs.Verdicts.{JudgedAs, ReachedIn, StateAs, Counted}
use Rattle.reporting.specs.Report.{move_row, state_row, depth_row, MoveRows}
use Rattle.splitting.specs.Splitting.{Writes}
use Rattle.normal.specs.Clean.{count, Stays, Leaves}
use Rattle.demands.specs.Printed.{bytes, printed}
use Rattle.demands.specs.Examples.{dish_text, dish, raise, stow, calm, level, done, pieced_text, pieced, second, three_text, three}

-- the move is judged so, and its row is this line
pub record MoveLine (o : Order) (r : Sheet) (m : Move) (v : Verdict) (line : String) : Type 0 where
  pub judged : JudgedAs (Before o) r m v
  pub row : move_row m.line v ≡ printed (line ∷ [])

-- the state has this verdict and this count, and its row is this line
pub record StateLine (o : Order) (r : Sheet) (q : ℕ) (v : StateVerdict) (k : ℕ) (line : String) : Type 0 where
  pub verdict : StateAs (Before o) r q v
  pub counted : Counted (ReachedIn r q) 1024 k
  pub row : state_row q v k ≡ printed (line ∷ [])

-- the depth is this, and its row is this line
pub record DepthLine (r : Sheet) (d : ℕ) (line : String) : Type 0 where
  pub depth : Depth r d
  pub row : depth_row d ≡ printed (line ∷ [])

-- the set of the products with the property P, out of those of the sheet, is written by this text
pub record GuardText (r : Sheet) (P : ℕ → Type 0) (text : String) : Type 0 where
  pub guard : Guard
  pub writes : Writes (count r) P guard
  pub spelled : print guard (names r.features) [] ≡ bytes text

pub record TheTable (o : Order) : Type 0 where
  -- fts→1
  -- feature→gauge
  -- feature→boat
  -- valid→(gauge|boat)
  -- start→0
  -- move→0→raise→1→(gauge|boat)
  -- move→1→stow→2→1
  -- move→2→calm→1→gauge
  -- move→1→level→3→(boat&!boat)
  -- move→3→done→1→1
  pub sheet : read_sheet dish_text ≡ kept dish
  -- move→6→false→1→-
  pub move_6 : MoveLine o dish raise (False 1) "move\t6\tfalse\t1\t-"
  -- move→7→must→1→-
  pub move_7 : MoveLine o dish stow (Must 1) "move\t7\tmust\t1\t-"
  -- move→8→may→1→2
  pub move_8 : MoveLine o dish calm (May 1 2) "move\t8\tmay\t1\t2"
  -- move→9→dead→-→1
  pub move_9 : MoveLine o dish level (Dead (Some 1)) "move\t9\tdead\t-\t1"
  -- move→10→dead→-→-
  pub move_10 : MoveLine o dish done (Dead None) "move\t10\tdead\t-\t-"
  -- the five, as the report has them
  pub moves :
      MoveRows (Before o) dish dish.moves
      (printed ("move\t6\tfalse\t1\t-" ∷ "move\t7\tmust\t1\t-" ∷ "move\t8\tmay\t1\t2" ∷ "move\t9\tdead\t-\t1" ∷ "move\t10\tdead\t-\t-" ∷ []))
  -- state→2→hidden→3→2
  pub state_2 : StateLine o dish 2 (Hidden 2) 3 "state\t2\thidden\t3\t2"
  -- state→3→unreached→0→-
  pub state_3 : StateLine o dish 3 Unreached 0 "state\t3\tunreached\t0\t-"
  -- depth→2
  pub depth : DepthLine dish 2 "depth\t2"
  -- valid→(gauge?1:(boat?1:0))
  pub valid : GuardText dish (Valid dish) "(gauge?1:(boat?1:0))"
  -- stop→2→(gauge?0:(boat?1:0))
  pub stop : GuardText dish (Stays dish 2) "(gauge?0:(boat?1:0))"
  -- "at least one move out of it is kept": state 2 gets a stop line
  pub leaves : Leaves dish 2
  -- fts→1
  -- feature→a
  -- valid→1
  -- start→0
  -- move→0→first→1→a
  -- move→1→second→2→!a
  pub pieced_sheet : read_sheet pieced_text ≡ kept pieced
  -- "all valid"
  pub pieced_valid : (p : ℕ) → p < 2 → Valid pieced p
  -- move→6→dead→-→1
  pub pieced_move : MoveLine o pieced second (Dead (Some 1)) "move\t6\tdead\t-\t1"
  -- fts→1
  -- valid→1
  -- start→0
  pub three_sheet : read_sheet three_text ≡ kept three
  -- state→0→end→1→-
  pub three_state : StateLine o three 0 End 1 "state\t0\tend\t1\t-"
  -- depth→0
  pub three_depth : DepthLine three 0 "depth\t0"
