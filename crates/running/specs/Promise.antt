-- What the box's calls promise, for every sheet, product, box and name. Assumes nothing: these are definitions.
use Rattle.std.specs.Prelude.{true, false, List, ◌⊎◌, ◌≡◌, ℕ, Result, Ok, Err}
use Rattle.refusals.specs.declared.Reason.TheVariants as because
use Rattle.refusals.specs.declared.Refusal.{Refusal}
use Rattle.refusals.specs.Refusal.{refusal}
use Rattle.sheet.specs.Sheet.{Sheet, is_valid}
use Rattle.sheet.specs.Reading.{kept, refused, read_sheet}
use Rattle.running.specs.declared.RunningBox.{RunningBox}
use Rattle.running.specs.declared.Called.{Called}
use Rattle.running.specs.Ways.{Stands, Ends}

-- an answer, with the box after it
abbrev pub called : Result (Unit {0}) Refusal → RunningBox → Called
called a b = record { answer = a; after = b }

-- "a refused set-up gives product 0 and an empty place"
abbrev pub nowhere : RunningBox
nowhere = record { product = 0; place = 0 }

-- "12, the product isn't valid, line 0"
pub record NotValid (r : Sheet) (p : ℕ) (q : Refusal) : Type 0 where
  pub twelve : q ≡ refusal because.InvalidProduct 0 0
  pub invalid : is_valid r p ≡ false

-- "then 19, line 0, no state of the place makes a move of that name in this product, bad names included"
pub record NoMove (r : Sheet) (b : RunningBox) (name : List ℕ) (q : Refusal) : Type 0 where
  pub nineteen : q ≡ refusal because.NoMove 0 0
  pub valid : is_valid r b.product ≡ true
  pub nothing : (to : ℕ) → Ends r b name to → ⊥

-- "Refusals: the sheet's own", and then what the call itself refuses of an accepted sheet (No)
abbrev pub Refuses : (Sheet → Refusal → Type 0) → List ℕ → Refusal → Type 0
Refuses No s q = (read_sheet s ≡ refused q) ⊎ ((r : Sheet) × (read_sheet s ≡ kept r) × No r q)

-- ---- the set-up

-- "Set up with a sheet and a product, its place is the start"
pub record Begun (r : Sheet) (p : ℕ) (b : RunningBox) : Type 0 where
  pub valid : is_valid r p ≡ true
  pub product : b.product ≡ p
  pub place : Stands b (λ q. q ≡ r.start)

-- of the answer, and of the box that comes of it
abbrev pub SetsUp : List ℕ → ℕ → Result (Unit {0}) Refusal → RunningBox → Type 0
SetsUp s p (Ok done) b = (r : Sheet) × (read_sheet s ≡ kept r) × Begun r p b
SetsUp s p (Err q) b = (b ≡ nowhere) × Refuses (λ r. NotValid r p) s q

-- ---- an action, of the box b

-- "an action name takes it to the ends of that name's moves which the product makes from the place"; there is one
pub record Went (r : Sheet) (b : RunningBox) (name : List ℕ) (after : RunningBox) : Type 0 where
  pub valid : is_valid r b.product ≡ true
  pub some : (q : ℕ) × Ends r b name q
  pub product : after.product ≡ b.product
  pub place : Stands after (Ends r b name)

-- of the answer, and of the box after it: "A refused call leaves the place as it was"
abbrev pub Acts : List ℕ → RunningBox → List ℕ → Result (Unit {0}) Refusal → RunningBox → Type 0
Acts s b name (Ok done) after = (r : Sheet) × (read_sheet s ≡ kept r) × Went r b name after
Acts s b name (Err q) after = (after ≡ b) × Refuses (λ r q. NotValid r b.product q ⊎ NoMove r b name q) s q
