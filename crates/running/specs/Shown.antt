-- A call's answer as the table of refusals has it, and what the program prints after the call. Assumes nothing: these are definitions.
use Rattle.std.specs.Prelude.{cond, List, [], ◌∷◌, ◌++◌, ◌≡◌, ℕ, ◌≤◌, eqb, length, take, Result, Ok, Err}
use Rattle.products.specs.Sets.{bit}
use Rattle.text.specs.Text.{Wrote, decimal, texts}
use Rattle.refusals.specs.declared.Refusal.{Refusal}
use Rattle.refusals.specs.Refusal.{Row, done_row, refused_row, refusal_text}
use Rattle.running.specs.declared.RunningBox.{RunningBox}
use Rattle.running.specs.declared.Called.{Called}

-- the row of the table, "0, done, 0" among them: number and line, and the place
abbrev pub row_of : Result (Unit {0}) Refusal → Row
row_of (Ok done) = done_row
row_of (Err q) = refused_row q

-- a tab and the state q, if the place w has it
abbrev pub state_text : ℕ → ℕ → List ℕ
state_text w q = cond (eqb (bit w q) 1) ((9 ∷ []) ++ decimal q) []

-- `place`, and the states of the place rising, tab-parted, with byte 10 at the end
unfoldable pub place_text : ℕ → List ℕ
place_text w = (112 ∷ 108 ∷ 97 ∷ 99 ∷ 101 ∷ []) ++ (texts (state_text w) 64 ++ (10 ∷ []))

abbrev pub told_text : Result (Unit {0}) Refusal → RunningBox → List ℕ
told_text (Ok done) b = place_text b.place
told_text (Err q) b = refusal_text q

-- the line that is printed after a call: the place, or the refusal
abbrev pub called_text : Called → List ℕ
called_text x = told_text x.answer x.after

-- what `put_called` leaves of a room: the line at its start, whole where the room has 198 bytes, which no line exceeds; n is how many it has
pub record Told (room room' : List ℕ) (n : ℕ) (x : Called) : Type 0 where
  pub laid : Wrote room 0 (called_text x) room' n
  pub whole : 198 ≤ length room → take n room' ≡ called_text x
