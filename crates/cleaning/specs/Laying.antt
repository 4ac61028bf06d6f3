-- What has to be there for `put_clean` to lay a sheet's clean sheet. Where it comes from plays no part: the sheet may be read, or made. Assumes nothing:
-- these are definitions.
use Rattle.std.specs.Prelude.{List, [], ◌≡◌, ℕ, ◌%◌, ◌<◌, min, length, get_or}
use Rattle.products.specs.Sets.{has, In}
use Rattle.guards.specs.Reading.{names_of}
use Rattle.sheet.specs.declared.Counts.{Counts}
use Rattle.sheet.specs.Sheet.{Sheet}
use Rattle.sheet.specs.Tables.{Tables, tables, StandsFor}
use Rattle.sheet.specs.Accepted.{Accepted}
use Rattle.desk.specs.declared.Desk.{Desk}
use Rattle.family.specs.Ways.{Reaches}
use Rattle.verdicts.specs.Judging.{guards_at}
use Rattle.ordering.specs.Ordering.{key_at, MadeRow, Orders}

-- ---- what the tables stand for

-- tables that stand for the accepted sheet r, and for each state the products that reach it
pub record Ready (s : List ℕ) (c : Counts) (T : Tables) (sets : List (List ℕ)) (r : Sheet) : Type 0 where
  pub stands : StandsFor s T c r
  pub accepted : Accepted r
  pub reaches : Reaches r (λ q. get_or sets q [])

-- so, and the first `kept` of `order` are the rows of the moves that are not dead, in order
pub record Prepared (s : List ℕ) (c : Counts) (T : Tables) (sets : List (List ℕ)) (order : List ℕ) (kept : ℕ) (r : Sheet) : Type 0 where
  pub ready : Ready s c T sets r
  pub first : List ℕ
  pub orders : Orders (key_at s T.moves) (MadeRow T.moves T.move_guards sets) (min c.moves 256) first order kept

-- ---- what is asked before, of any tables

-- the first `kept` rows of `order` are there in both tables, and their sources have sets
pub record RowsWithin (order : List ℕ) (kept : ℕ) (moves guards sets : List (List ℕ)) : Type 0 where
  pub move : (i : ℕ) → i < kept → get_or order i 0 % 256 < length moves
  pub guard : (i : ℕ) → i < kept → get_or order i 0 % 256 < length guards
  pub set : (i : ℕ) → i < kept → get_or (get_or moves (get_or order i 0 % 256) []) 1 0 % 64 < length sets

-- of the products that reach a state, `out` has those in which the guard of one of the first `count` moves out of it holds
pub record Outs (moves guards sets : List (List ℕ)) (count : ℕ) (out : List (List ℕ)) : Type 0 where
  pub is : (q : ℕ) → q < 64 → (p : ℕ) → In (get_or sets q []) p → has (get_or out q []) p ≡ guards_at moves guards q p count

-- ---- the same of what lies on a desk

-- the names of the features, the last first
abbrev pub names_on : Desk → List (List ℕ)
names_on d = names_of d.sheet.text.now d.sheet.names.now (min d.sheet.counts.features 10)

-- how many rows of moves there are in both tables
abbrev pub rows_on : Desk → ℕ
rows_on d = min (min (min d.sheet.counts.moves 256) (length d.sheet.moves.now)) (length d.sheet.move_guards.now)

abbrev pub OutsOn : Desk → Type 0
OutsOn d = Outs d.sheet.moves.now d.sheet.move_guards.now d.sets.now (rows_on d) d.out.now

-- t and h are whatever tables of stops
abbrev pub PreparedOn : Desk → (t h : List (List ℕ)) → (order : List ℕ) → (kept : ℕ) → Sheet → Type 0
PreparedOn d t h order kept r = Prepared d.sheet.text.now d.sheet.counts (tables d.sheet.names.now d.sheet.valid.now d.sheet.moves.now d.sheet.move_guards.now t h) d.sets.now order kept r
