-- What the calls promise, for every sheet and every room. Assumes nothing: these are definitions.
use Rattle.std.specs.Prelude.{List, ◌++◌, ◌⊎◌, ◌≡◌, ℕ, ◌≤◌, ◌<◌, min, length, drop, Result, Ok, Err}
use Rattle.refusals.specs.declared.Reason.TheVariants as because
use Rattle.refusals.specs.declared.Refusal.{Refusal}
use Rattle.refusals.specs.Refusal.{refusal}
use Rattle.products.specs.declared.Order.{Order}
use Rattle.products.specs.declared.Order.TheVariants.{Plainest}
use Rattle.products.specs.Orders.{Before}
use Rattle.sheet.specs.Sheet.{Sheet}
use Rattle.sheet.specs.Reading.{kept, refused, read_sheet}
use Rattle.reporting.specs.Report.{IsReport}
use Rattle.normal.specs.Clean.{IsClean}

-- ---- a text and its room: `Is` says which text is meant, and `most` how long it may be

-- "On 0 the answer is the length n; the first n bytes hold the text and the rest of the room keeps its bytes."
pub record Filled (Is : List ℕ → Type 0) (most : ℕ) (room room' : List ℕ) (n : ℕ) : Type 0 where
  pub text : List ℕ
  pub is : Is text
  pub fits : length text ≤ most
  pub is_length : n ≡ length text
  pub laid : room' ≡ text ++ drop n room

-- "11: result longer than the room", with the line that the call gives it
pub record TooLong (Is : List ℕ → Type 0) (most line : ℕ) (q : Refusal) : Type 0 where
  pub eleven : q ≡ refusal because.RoomTooShort line 0
  pub text : List ℕ
  pub is : Is text
  pub longer : most < length text

pub record Fits (Is : List ℕ → Type 0) (most : ℕ) : Type 0 where
  pub text : List ℕ
  pub is : Is text
  pub fits : length text ≤ most

-- ---- a call with one room: done; or refused, and "The output room keeps every byte". It is refused by the table as the sheet is read; by what the call
-- itself refuses of an accepted sheet (No); or else by 11.
abbrev pub OneText : (Sheet → Refusal → Type 0) → (Sheet → List ℕ → Type 0) → ℕ → List ℕ → List ℕ → List ℕ → Result ℕ Refusal → Type 0
OneText No Is most s room room' (Ok n) = (r : Sheet) × (read_sheet s ≡ kept r) × Filled (Is r) most room room' n
OneText No Is most s room room' (Err q) =
    (room' ≡ room) × ((read_sheet s ≡ refused q) ⊎ ((r : Sheet) × (read_sheet s ≡ kept r) × (No r q ⊎ TooLong (Is r) most 0 q)))

-- of an accepted sheet nothing is refused but by 11
abbrev pub nothing : Sheet → Refusal → Type 0
nothing r q = ⊥

-- "Both are shown from one statement over the order used": `report` promises it of the plainest product, "with the fewest features, then the smallest
-- number", and `report_by_number` of the smallest number, "by a call of its own"
abbrev pub ReportPromise : Order → List ℕ → List ℕ → List ℕ → Result ℕ Refusal → Type 0
ReportPromise o s room room' a = OneText nothing (IsReport (Before o)) (length room) s room room' a

-- "for `clean` also longer than 65,536"
abbrev pub clean_most : List ℕ → ℕ
clean_most room = min (length room) 65536

abbrev pub CleanPromise : List ℕ → List ℕ → List ℕ → Result ℕ Refusal → Type 0
CleanPromise s room room' a = OneText nothing IsClean (clean_most room) s room room' a

-- ---- "One call instead of two", with two rooms: "If either result doesn't fit, neither room changes. Both texts equal those of the single calls, the
-- report in the default order"

-- "in this call 11 carries line 1 for the report's room, line 2 for the clean sheet's room or its 65,536 bytes, the report's first"
abbrev pub EitherTooLong : Sheet → List ℕ → List ℕ → Refusal → Type 0
EitherTooLong r room clean q =
    TooLong (IsReport (Before Plainest) r) (length room) 1 q ⊎ (Fits (IsReport (Before Plainest) r) (length room) × TooLong (IsClean r) (clean_most clean) 2 q)

abbrev pub BothPromise : List ℕ → List ℕ → List ℕ → List ℕ → List ℕ → Result (ℕ × ℕ) Refusal → Type 0
BothPromise s room room' clean clean' (Ok (n, m)) =
    (r : Sheet) × (read_sheet s ≡ kept r) × Filled (IsReport (Before Plainest) r) (length room) room room' n × Filled (IsClean r) (clean_most clean) clean clean' m
BothPromise s room room' clean clean' (Err q) =
    (room' ≡ room) × (clean' ≡ clean) × ((read_sheet s ≡ refused q) ⊎ ((r : Sheet) × (read_sheet s ≡ kept r) × EitherTooLong r room clean q))
