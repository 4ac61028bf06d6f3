-- What the code's tables and answers stand for: one relation between tables and sheet. Assumes nothing: these are definitions.
use Rattle.refusals.specs.declared.Refusal.{Refusal}
use Rattle.std.specs.Prelude.{List, [], ◌∷◌, ◌≡◌, ℕ, zero, suc, ◌+◌, ◌≤◌, ◌<◌, length, get_or, replicate, Result, Ok, Err}
use Rattle.products.specs.Sets.{has, one_if}
use Rattle.fields.specs.Bytes.{part}
use Rattle.guards.specs.Guard.{Means}
use Rattle.sheet.specs.declared.Counts.{Counts}
use Rattle.sheet.specs.Sheet.{Feature, Move, Stop, Sheet, is_valid}
use Rattle.sheet.specs.Reading.{kept, refused, read_sheet}

-- the six tables that a caller lends
pub record Tables : Type 0 where
  pub names : List (List ℕ)
  pub valid : List ℕ
  pub moves : List (List ℕ)
  pub move_guards : List (List ℕ)
  pub stops : List (List ℕ)
  pub stop_guards : List (List ℕ)

abbrev pub tables : List (List ℕ) → List ℕ → List (List ℕ) → List (List ℕ) → List (List ℕ) → List (List ℕ) → Tables
tables n v m g t h = record { names = n; valid = v; moves = m; move_guards = g; stops = t; stop_guards = h }

-- the bytes x stand at a place of the sheet s
pub record Lies (s x : List ℕ) (place : ℕ) : Type 0 where
  pub within : place + length x ≤ length s
  pub is : part s place (place + length x) ≡ x

-- the rows for a list: row i, from 0, is for the element before which i elements were read
pub data Rows {A : Type 0} (R : ℕ → A → Type 0) : ℕ → List A → Type 0 where
  none : Rows R zero []
  next : {k : ℕ} {x : A} {xs : List A} → R k x → Rows R k xs → Rows R (suc k) (x ∷ xs)

-- a table of which the first k rows are for the list xs, and the others blank
pub record Table {A : Type 0} (R : List ℕ → A → Type 0) (blank : List ℕ) (t : List (List ℕ)) (k : ℕ) (xs : List A) : Type 0 where
  pub few : k ≤ length t
  pub rows : Rows (λ i x. R (get_or t i []) x) k xs
  pub rest : (i : ℕ) → k ≤ i → i < length t → get_or t i [] ≡ blank

-- a feature's row: the name's place, and the place behind it
pub record FeatureRow (s row : List ℕ) (f : Feature) : Type 0 where
  pub lies : Lies s f.name f.place
  pub is : row ≡ f.place ∷ (f.place + length f.name) ∷ []

-- a move's row: line, from, the action's place, the place behind it, to
pub record MoveRow (s row : List ℕ) (m : Move) : Type 0 where
  pub lies : Lies s m.action m.place
  pub is : row ≡ m.line ∷ m.from ∷ m.place ∷ (m.place + length m.action) ∷ m.to ∷ []

-- a stop's row: line and state
abbrev pub StopRow : List ℕ → Stop → Type 0
StopRow row d = row ≡ d.line ∷ d.state ∷ []

-- the tables' first f, k and d rows are for these features, moves and stops; the guards' sets have exactly the products in which the guards hold
pub record Filled (s : List ℕ) (T : Tables) (f k d : ℕ) (fs : List Feature) (ms : List Move) (ds : List Stop) : Type 0 where
  pub ten : length T.names ≡ 10
  pub names : Table (FeatureRow s) (replicate 2 0) T.names f fs
  pub moves : Table (MoveRow s) (replicate 5 0) T.moves k ms
  pub move_guards : Table (λ set m. Means set m.guard) (replicate 16 0) T.move_guards k ms
  pub stops : Table StopRow (replicate 2 0) T.stops d ds
  pub stop_guards : Table (λ set d. Means set d.guard) (replicate 16 0) T.stop_guards d ds

-- ---- what the outermost reader promises

-- the tables stand for the sheet r: the set `valid` has exactly the valid products
pub record StandsFor (s : List ℕ) (T : Tables) (c : Counts) (r : Sheet) : Type 0 where
  pub start : c.start ≡ r.start
  pub valid : (p : ℕ) → p < 1024 → has T.valid p ≡ one_if (is_valid r p)
  pub few : c.moves ≤ 256
  pub stops_few : c.stops ≤ 64
  pub filled : Filled s T c.features c.moves c.stops r.features r.moves r.stops

-- the sheet is accepted, and the tables stand for it
abbrev pub ReadInto : List ℕ → Tables → Counts → Type 0
ReadInto s T c = (r : Sheet) × (read_sheet s ≡ kept r) × StandsFor s T c r

-- the tables of moves and of stops, and those of their guards' sets, have so many rows
pub record Sized (m g t h : ℕ) (T : Tables) : Type 0 where
  pub moves : length T.moves ≡ m
  pub move_guards : length T.move_guards ≡ g
  pub stops : length T.stops ≡ t
  pub stop_guards : length T.stop_guards ≡ h

-- no row of any table; all but the names have these lengths
abbrev pub blank_tables : ℕ → ℕ → ℕ → ℕ → Tables
blank_tables m g t h =
    tables (replicate 10 (replicate 2 0)) (replicate 16 0) (replicate m (replicate 5 0)) (replicate g (replicate 16 0)) (replicate t (replicate 2 0))
    (replicate h (replicate 16 0))

-- of tables that are lent with m, g, t and h rows: refused as the definition refuses, and all of them blank; or kept, and they stand for the
-- definition's sheet
abbrev pub ReadsSheet : ℕ → ℕ → ℕ → ℕ → List ℕ → Tables → Result Counts Refusal → Type 0
ReadsSheet m g t h s T (Ok c) = ReadInto s T c × Sized m g t h T
ReadsSheet m g t h s T (Err q) = (read_sheet s ≡ refused q) × (T ≡ blank_tables m g t h)
