-- An answer as the table of refusals has it, and as the programs print it. Assumes nothing: these are definitions.
use Rattle.std.specs.Prelude.{List, ◌≡◌, ℕ, ◌≤◌, length, take, Result, Ok, Err}
use Rattle.text.specs.Text.{Wrote}
use Rattle.refusals.specs.declared.Refusal.{Refusal}
use Rattle.refusals.specs.Refusal.{Row, done_row, refused_row, refusal_text}

-- the row of the table, "0, done, 0" among them: number and line, and the place
abbrev pub row_of : Result ℕ Refusal → Row
row_of (Ok n) = done_row
row_of (Err q) = refused_row q

abbrev pub row_of_both : Result (ℕ × ℕ) Refusal → Row
row_of_both (Ok n) = done_row
row_of_both (Err q) = refused_row q

-- "On 0 the answer is the length n"
abbrev pub length_of : Result ℕ Refusal → ℕ
length_of (Ok n) = n
length_of (Err q) = 0

-- the report's, and the clean sheet's
abbrev pub lengths_of : Result (ℕ × ℕ) Refusal → ℕ × ℕ
lengths_of (Ok n) = n
lengths_of (Err q) = (0, 0)

-- what `put_answer` leaves of a room that a call answered for: the text as it lies there, or the line of the refusal, whole where the room has 54 bytes,
-- the most that a line has; n is how many bytes are to be printed
pub data Put (room room' : List ℕ) (n : ℕ) : Result ℕ Refusal → Type 0 where
  text : room' ≡ room → Put room room' n (Ok n)
  line : {q : Refusal} → Wrote room 0 (refusal_text q) room' n → (54 ≤ length room → take n room' ≡ refusal_text q) → Put room room' n (Err q)

-- the bytes of it: the first n of the room, or the line
abbrev pub printed_of : Result ℕ Refusal → List ℕ → List ℕ
printed_of (Ok n) room = take n room
printed_of (Err q) room = refusal_text q

-- "Each program reads one sheet from standard input and writes its result to standard output": what is written after a call that promises P and was
-- lent a room that held `room`
pub record Printed (P : List ℕ → List ℕ → Result ℕ Refusal → Type 0) (room bytes : List ℕ) : Type 0 where
  pub answer : Result ℕ Refusal
  pub left : List ℕ
  pub call : P room left answer
  pub is : bytes ≡ printed_of answer left
