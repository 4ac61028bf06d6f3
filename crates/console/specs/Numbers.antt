-- A number in decimal digits, as a command line or a line of an input has it. Assumes nothing: these are definitions.
use Rattle.std.specs.Prelude.{cond, ◌&&◌, List, [], ◌∷◌, ℕ, ◌+◌, ◌-◌, ◌*◌, min, leb, Option, Some, None}

-- what the digits come to, behind those that came to a; a number above 1,000,000,000 is told as that
unfoldable pub number_from : ℕ → List ℕ → Option ℕ
number_from a [] = Some a
number_from a (b ∷ bs) = cond (leb 48 b && leb b 57) (number_from (min (a * 10 + (b - 48)) 1000000000) bs) None

-- one decimal digit or more
abbrev pub number_of : List ℕ → Option ℕ
number_of [] = None
number_of (b ∷ bs) = number_from 0 (b ∷ bs)
