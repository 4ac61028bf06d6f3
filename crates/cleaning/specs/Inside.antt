-- What the functions inside promise each other: the clean form on sets and rows, as the code has them; tied to the clean sheet in proofs/. Nobody has
-- to believe this page: the promise of `put_clean` does not speak of it. Assumes nothing: these are definitions.
use Rattle.std.specs.Prelude.{not, ◌&&◌, List, [], ◌∷◌, ◌++◌, ◌≡◌, ℕ, zero, suc, ◌%◌, min, length, get_or}
use Rattle.products.specs.Sets.{has, In}
use Rattle.fields.specs.Bytes.{piece_of}
use Rattle.fields.specs.Cutting.{join}
use Rattle.guards.specs.Guard.{Guard, always}
use Rattle.guards.specs.Reading.{names_of}
use Rattle.sheet.specs.declared.Counts.{Counts}
use Rattle.sheet.specs.Sheet.{Move, Stop, Sheet, names}
use Rattle.sheet.specs.Tables.{Rows, Tables}
use Rattle.sheet.specs.Spelling.{Fields}
use Rattle.verdicts.specs.Judging.{InBoth, InOnly, guards_at}
use Rattle.splitting.specs.Splitting.{in_set, guard_of}

-- ---- texts of lines

unfoldable pub line_of : Fields → List ℕ
line_of fs = join fs ++ 10 ∷ []

-- the lines for a list that has the last line first
unfoldable pub lines_of : {A : Type 0} → (A → Fields) → List A → List ℕ
lines_of row [] = []
lines_of row (x ∷ xs) = lines_of row xs ++ line_of (row x)

-- ---- moves

-- the guard of a move whose source the products `here` reach, over n features
pub data MadeGuard (n : ℕ) (here guard : List ℕ) : Guard → Type 0 where
  full : ((p : ℕ) → InOnly here guard p → ⊥) → MadeGuard n here guard always
  split : (p : ℕ) → InOnly here guard p → MadeGuard n here guard (guard_of 0 n (λ q. in_set here q && in_set guard q))

-- the line for row k
pub record RowMove (s : List ℕ) (n : ℕ) (moves guards sets : List (List ℕ)) (k : ℕ) (m : Move) : Type 0 where
  pub from : m.from ≡ get_or (get_or moves k []) 1 0
  pub action : m.action ≡ piece_of s (get_or (get_or moves k []) 2 0) (get_or (get_or moves k []) 3 0)
  pub to : m.to ≡ get_or (get_or moves k []) 4 0
  pub guard : MadeGuard n (get_or sets (get_or (get_or moves k []) 1 0 % 64) []) (get_or guards k []) m.guard

-- ---- stops

-- the stop lines of the state q, none or one: the products `here` reach it, and in those of `out` the guard of a move out of it holds
pub data StopAt (n : ℕ) (here out : List ℕ) (q : ℕ) : List Stop → Type 0 where
  dead : ((p : ℕ) → InBoth here out p → ⊥) → StopAt n here out q []
  leaving : ((p : ℕ) → InOnly here out p → ⊥) → StopAt n here out q []
  stays : {d : Stop} (p : ℕ) → InBoth here out p → (k : ℕ) → InOnly here out k → d.state ≡ q → d.guard ≡ guard_of 0 n (λ j. in_set here j && not (in_set out j)) → StopAt n here out q (d ∷ [])

-- those of the states below q
pub data StopsBelow (n : ℕ) (moves guards sets : List (List ℕ)) (count : ℕ) : ℕ → List Stop → Type 0 where
  none : StopsBelow n moves guards sets count zero []
  next : {q : ℕ} {ds more : List Stop} (out : List ℕ) → ((p : ℕ) → In (get_or sets q []) p → has out p ≡ guards_at moves guards q p count) → StopAt n (get_or sets q []) out q more → StopsBelow n moves guards sets count q ds → StopsBelow n moves guards sets count (suc q) (more ++ ds)

-- ---- the whole

-- f is the form that the tables, the states' sets and the first `kept` rows of `order` make
pub record FormOf (s : List ℕ) (c : Counts) (T : Tables) (sets : List (List ℕ)) (order : List ℕ) (kept : ℕ) (f : Sheet) : Type 0 where
  pub features : names f.features ≡ names_of s T.names (min c.features 10)
  pub valid : f.valid ≡ guard_of 0 (min c.features 10) (in_set T.valid)
  pub start : f.start ≡ c.start
  pub moves : Rows (λ i m. RowMove s (min c.features 10) T.moves T.move_guards sets (get_or order i 0 % 256) m) (min kept 256) f.moves
  pub stops : StopsBelow (min c.features 10) T.moves T.move_guards sets (min (min (min c.moves 256) (length T.moves)) (length T.move_guards)) 64 f.stops
