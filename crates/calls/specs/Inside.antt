-- What the functions inside promise each other. Nobody has to believe this page: the promises of the calls do not speak of it. Assumes nothing: these
-- are definitions.
use Rattle.refusals.specs.declared.Refusal.{Refusal}
use Rattle.std.specs.Prelude.{Bool, true, false, List, [], ◌⊎◌, ◌≡◌, ℕ, ◌≤◌, length, get_or, Result, Ok, Err}
use Rattle.text.specs.Text.{Wrote}
use Rattle.refusals.specs.declared.Reason.TheVariants as because
use Rattle.refusals.specs.Refusal.{refusal}
use Rattle.products.specs.declared.Order.TheVariants.{Plainest}
use Rattle.products.specs.Orders.{Before}
use Rattle.sheet.specs.declared.Counts.{Counts}
use Rattle.desk.specs.declared.Desk.{Desk}
use Rattle.desk.specs.declared.SheetTables.{SheetTables}
use Rattle.sheet.specs.Sheet.{Sheet}
use Rattle.sheet.specs.Tables.{Tables, tables, StandsFor}
use Rattle.sheet.specs.Accepted.{Accepted}
use Rattle.sheet.specs.Numbered.{LinesTo}
use Rattle.family.specs.Ways.{Reaches, Depth}
use Rattle.reporting.specs.Report.{IsReport}
use Rattle.normal.specs.Clean.{IsClean}
use Rattle.calls.specs.declared.Job.{Job}
use Rattle.calls.specs.declared.Job.TheVariants.{Report, Clean, Both}
use Rattle.calls.specs.Promise.{Filled, TooLong, Fits, clean_most, EitherTooLong, ReportPromise, CleanPromise, BothPromise}

-- the answer of a job that has one room
abbrev pub first_of : Result (ℕ × ℕ) Refusal → Result ℕ Refusal
first_of (Ok (n, m)) = Ok n
first_of (Err q) = Err q

-- ---- what each job promises; the second room of a job that has one is empty, and nothing is said of it

abbrev pub Serves : Job → List ℕ → List ℕ → List ℕ → List ℕ → List ℕ → Result (ℕ × ℕ) Refusal → Type 0
Serves (Report o) s room room' second second' a = ReportPromise o s room room' (first_of a)
Serves Clean s room room' second second' a = CleanPromise s room room' (first_of a)
Serves Both s room room' second second' a = BothPromise s room room' second second' a

pub record Served (job : Job) (s room room' second second' : List ℕ) (a : Result (ℕ × ℕ) Refusal) : Type 0 where
  pub is : Serves job s room room' second second' a

-- ---- what it leaves for the sheet r that lies on the desk, read or made

-- n is the length of the text, as a run without a room tells it
pub record Long (Is : List ℕ → Type 0) (n : ℕ) : Type 0 where
  pub text : List ℕ
  pub is : Is text
  pub none : List ℕ
  pub wrote : Wrote [] 0 text none n

-- whether it fits: none that is meant is longer, or one is
abbrev pub Fitted : (List ℕ → Type 0) → ℕ → Bool → Type 0
Fitted Is most true = (text : List ℕ) → Is text → length text ≤ most
Fitted Is most false = (line : ℕ) → TooLong Is most line (refusal because.RoomTooShort line 0)

pub record Fitting (Is : List ℕ → Type 0) (most : ℕ) (b : Bool) : Type 0 where
  pub is : Fitted Is most b

-- of which line 11 speaks, by whether this text is too long, where another is
abbrev pub Longer : (List ℕ → Type 0) → ℕ → ℕ → Type 0
Longer Is most line = ((line ≡ 1) × TooLong Is most 1 (refusal because.RoomTooShort 1 0)) ⊎ ((line ≡ 2) × Fits Is most)

-- one text in one room
abbrev pub Fills : (List ℕ → Type 0) → ℕ → List ℕ → List ℕ → Result (ℕ × ℕ) Refusal → Type 0
Fills Is most room room' (Ok (n, m)) = Filled Is most room room' n
Fills Is most room room' (Err q) = (room' ≡ room) × TooLong Is most 0 q

pub record Filling (Is : List ℕ → Type 0) (most : ℕ) (room room' : List ℕ) (a : Result (ℕ × ℕ) Refusal) : Type 0 where
  pub is : Fills Is most room room' a

abbrev pub FillsBoth : Sheet → List ℕ → List ℕ → List ℕ → List ℕ → Result (ℕ × ℕ) Refusal → Type 0
FillsBoth r room room' clean clean' (Ok (n, m)) = Filled (IsReport (Before Plainest) r) (length room) room room' n × Filled (IsClean r) (clean_most clean) clean clean' m
FillsBoth r room room' clean clean' (Err q) = (room' ≡ room) × (clean' ≡ clean) × EitherTooLong r room clean q

pub record BothFilling (r : Sheet) (room room' clean clean' : List ℕ) (a : Result (ℕ × ℕ) Refusal) : Type 0 where
  pub is : FillsBoth r room room' clean clean' a

abbrev pub Leaves : Job → Sheet → List ℕ → List ℕ → List ℕ → List ℕ → Result (ℕ × ℕ) Refusal → Type 0
Leaves (Report o) r room room' second second' a = Filling (IsReport (Before o) r) (length room) room room' a
Leaves Clean r room room' second second' a = Filling (IsClean r) (clean_most room) room room' a
Leaves Both r room room' second second' a = BothFilling r room room' second second' a

pub record Left (job : Job) (r : Sheet) (room room' second second' : List ℕ) (a : Result (ℕ × ℕ) Refusal) : Type 0 where
  pub is : Leaves job r room room' second second' a

-- ---- a sheet as it comes to the desk: accepted, and its lines are numbered as those of a sheet that is read
pub record Comes (r : Sheet) : Type 0 where
  pub accepted : Accepted r
  pub lines : LinesTo 65537 r

-- ---- the desk: the tables stand for the sheet r, the states' sets are its own, and so is the depth

pub record Laid (s : List ℕ) (c : Counts) (T : Tables) (sets : List (List ℕ)) (depth : ℕ) (r : Sheet) : Type 0 where
  pub stands : StandsFor s T c r
  pub comes : Comes r
  pub reaches : Reaches r (λ q. get_or sets q [])
  pub deep : Depth r depth

abbrev pub StandsOn : SheetTables → Sheet → Type 0
StandsOn t r = StandsFor t.text.now (tables t.names.now t.valid.now t.moves.now t.move_guards.now t.stops.now t.stop_guards.now) t.counts r

abbrev pub LaidOn : Desk → Sheet → Type 0
LaidOn d r = Laid d.sheet.text.now d.sheet.counts (tables d.sheet.names.now d.sheet.valid.now d.sheet.moves.now d.sheet.move_guards.now d.sheet.stops.now d.sheet.stop_guards.now) d.sets.now d.depth r
