-- A refusal, and the line that is printed for it. Which sheet is refused, why, and with which line and place, is the reader's and the writers' matter
-- and not told here. Assumes nothing: these are definitions.
use Rattle.std.specs.Prelude.{List, [], ◌∷◌, ◌++◌, ℕ}
use Rattle.text.specs.Text.{decimal}
use Rattle.refusals.specs.declared.Reason.{Reason}
use Rattle.refusals.specs.declared.Reason.TheVariants as because
use Rattle.refusals.specs.declared.Refusal.{Refusal}

-- the numbers of the table of refusals
abbrev pub number_of : Reason → ℕ
-- "sheet over 65,536 bytes"
number_of because.SheetTooLong = 1
-- "sheet empty, or last byte is not 10"
number_of because.NoLastLineEnd = 2
-- "line unknown, misplaced, with a wrong number of fields, or a required line lacking"
number_of because.BadLine = 3
-- "bad feature name, action or state"
number_of because.BadField = 4
-- "guard outside the grammar"
number_of because.BadGuard = 5
-- "undeclared name where a guard may begin"
number_of because.UndeclaredName = 6
-- "nesting would become 33, where a guard may begin"
number_of because.NestedTooDeep = 7
-- "11th feature line or 257th move line"
number_of because.TooManyLines = 8
-- "a repeat"
number_of because.Repeat = 9
-- "no valid product"
number_of because.NoValidProduct = 10
-- "result longer than the room"
number_of because.RoomTooShort = 11
-- the product isn't valid
number_of because.InvalidProduct = 12
-- no move by this name leads the box on
number_of because.NoMove = 19

-- the refusal for this reason, which speaks of this line and of this place in it
abbrev pub refusal : Reason → (line place : ℕ) → Refusal
refusal r n p = record { number = number_of r; line = n; place = p }

-- a row of the table with its line and place: "0, done, 0", or a refusal's
pub record Row : Type 0 where
  pub number : ℕ
  pub line : ℕ
  pub place : ℕ

abbrev pub done_row : Row
done_row = record { number = 0; line = 0; place = 0 }

abbrev pub refused_row : Refusal → Row
refused_row q = record { number = q.number; line = q.line; place = q.place }

-- "The programs print a refusal as `refused`, number, line, tab-parted, with byte 10 at the end", and the place "as a fourth field"
unfoldable pub refusal_text : Refusal → List ℕ
refusal_text q =
    (114 ∷ 101 ∷ 102 ∷ 117 ∷ 115 ∷ 101 ∷ 100 ∷ 9 ∷ [])
    ++ (decimal q.number ++ ((9 ∷ []) ++ (decimal q.line ++ ((9 ∷ []) ++ (decimal q.place ++ (10 ∷ []))))))
