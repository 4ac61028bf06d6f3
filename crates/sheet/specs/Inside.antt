-- What the functions inside the reader promise each other, and the marks by which repeats are told. Nobody has to believe this page: the promises
-- of `read_sheet` and `read_blank` do not speak of it. Assumes nothing: these are definitions.
use Rattle.refusals.specs.declared.Refusal.{Refusal}
use Rattle.std.specs.Prelude.{Bool, false, not, List, [], ◌∷◌, ◌≡◌, ℕ, ◌+◌, ◌-◌, ◌*◌, ◌%◌, ◌≤◌, ◌<◌, length, drop, Result, Ok, Err}
use Rattle.products.specs.Sets.{has}
use Rattle.refusals.specs.declared.Reason.TheVariants as because
use Rattle.refusals.specs.Refusal.{refusal}
use Rattle.fields.specs.Bytes.{is_action, read_state}
use Rattle.guards.specs.Guard.{Guard, Means}
use Rattle.guards.specs.Reading.{Outcome}
use Rattle.sheet.specs.declared.Counts.{Counts}
use Rattle.sheet.specs.declared.Section.{Section}
use Rattle.sheet.specs.declared.Section.TheVariants.{BeforeFts, AmongFeatures, BehindValid, BehindStart, BehindStop}
use Rattle.sheet.specs.declared.Progress.{Progress}
use Rattle.sheet.specs.declared.Triple.{Triple}
use Rattle.sheet.specs.Sheet.{Move, Stop, Sheet}
use Rattle.sheet.specs.Reading.{State, Answer, kept, refused, refuse_if, place_behind, stated, guarded, moved, stopped, move_word}
use Rattle.sheet.specs.Tables.{Tables, Filled, StandsFor}

-- ---- marks: 8,192 places, of which each triple of from, action and to has one; place h is bit h % 64 of word h / 64

unfoldable pub mixed : ℕ → List ℕ → ℕ
mixed h [] = h
mixed h (b ∷ bs) = (mixed h bs * 37 + b) % 8192

-- of the action the last three bytes count
unfoldable pub place_of : ℕ → List ℕ → ℕ → ℕ
place_of from action to = mixed (from % 64 * 128 + to % 64) (drop (length action - 3) action)

-- a triple whose place has no mark has not come
pub record Marked (seen : List ℕ) (ms : List Move) : Type 0 where
  pub long : length seen ≡ 128
  pub new : (from : ℕ) (action : List ℕ) (to : ℕ) → has seen (place_of from action to) ≡ 0 → moved from action to ms ≡ false

-- the answer whether a triple has come, and the marks once it has come again
pub record Tells (seen : List ℕ) (from : ℕ) (action : List ℕ) (to : ℕ) (ms : List Move) (r : Bool) : Type 0 where
  pub is : r ≡ moved from action to ms
  pub marked : (m : Move) → m.from ≡ from → m.action ≡ action → m.to ≡ to → Marked seen (m ∷ ms)

-- ---- the lines, and their end

-- states below 64, none twice
abbrev pub Apart : List Stop → Type 0
Apart [] = Unit {0}
Apart (d ∷ ds) = (d.state < 64) × (stopped d.state ds ≡ false) × Apart ds

-- the section's number in the definition of reading
abbrev pub number_of : Section → ℕ
number_of BeforeFts = 0
number_of AmongFeatures = 1
number_of BehindValid = 2
number_of BehindStart = 3
number_of BehindStop = 4

-- while the lines are read: the tables and the marks stand for what the lines so far say
pub record Stands (s : List ℕ) (T : Tables) (seen : List ℕ) (c : Progress) (st : State) : Type 0 where
  pub section : number_of c.section ≡ st.section
  pub valid_line : c.valid ≡ st.valid_line
  pub start : c.start ≡ st.sheet.start
  pub valid : Means T.valid st.sheet.valid
  pub apart : Apart st.sheet.stops
  pub few : c.moves ≤ 256
  pub stops_few : c.stops ≤ 64
  pub filled : Filled s T c.features c.moves c.stops st.sheet.features st.sheet.moves st.sheet.stops
  pub marked : Marked seen st.sheet.moves

-- a line reader's answer, with the tables and marks as they are then, is this answer of the definition
abbrev pub SaysIn : List ℕ → Tables → List ℕ → Result Progress Refusal → Answer State → Type 0
SaysIn s T seen (Ok c) a = (st : State) × (a ≡ kept st) × Stands s T seen c st
SaysIn s T seen (Err q) a = a ≡ refused q

pub record Says (s : List ℕ) (T : Tables) (seen : List ℕ) (r : Result Progress Refusal) (a : Answer State) : Type 0 where
  pub is : SaysIn s T seen r a

-- the answer for a guard of line n, in the field x, which begins at place u: its set, or a refusal, whatever the line does with the guard
abbrev pub GuardsIn : ℕ → ℕ → List ℕ → Result (Unit {0}) Refusal → List ℕ → Outcome → Type 0
GuardsIn n u x (Ok t) set o = (g : Guard) × Means set g × ((k : Guard → Answer State) → guarded n u x o k ≡ k g)
GuardsIn n u x (Err q) set o = (k : Guard → Answer State) → guarded n u x o k ≡ refused q

pub record Guards (n u : ℕ) (x : List ℕ) (r : Result (Unit {0}) Refusal) (set : List ℕ) (o : Outcome) : Type 0 where
  pub is : GuardsIn n u x r set o

-- from, action and to of a move by 4, of which the two last begin at places u and v, and what follows where they are good
abbrev pub with_triple : ℕ → ℕ → ℕ → List ℕ → List ℕ → List ℕ → (ℕ → ℕ → Answer State) → Answer State
with_triple n u v f a t k =
    stated n (place_behind (move_word ∷ [])) (read_state f) (λ from. refuse_if (not (is_action a)) (refusal because.BadField n u) (stated n v (read_state t) (λ to. k from to)))

-- the answer for the line n
abbrev pub TripledIn : ℕ → ℕ → ℕ → List ℕ → List ℕ → List ℕ → Result Triple Refusal → Type 0
TripledIn n u v f a t (Ok z) = (k : ℕ → ℕ → Answer State) → with_triple n u v f a t k ≡ k z.from z.to
TripledIn n u v f a t (Err q) = (k : ℕ → ℕ → Answer State) → with_triple n u v f a t k ≡ refused q

pub record Tripled (n u v : ℕ) (f a t : List ℕ) (r : Result Triple Refusal) : Type 0 where
  pub is : TripledIn n u v f a t r

-- the answer at the end of the lines, with the tables as they are then, is this answer of the definition
abbrev pub EndsIn : List ℕ → Tables → Result Counts Refusal → Answer Sheet → Type 0
EndsIn s T (Ok c) a = (r : Sheet) × (a ≡ kept r) × StandsFor s T c r
EndsIn s T (Err q) a = a ≡ refused q

pub record Ends (s : List ℕ) (T : Tables) (r : Result Counts Refusal) (a : Answer Sheet) : Type 0 where
  pub is : EndsIn s T r a
