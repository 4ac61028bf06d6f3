-- Lines and fields: cutting a list of bytes at a mark, and joining it again. Assumes nothing: these are definitions.
use Rattle.std.specs.Prelude.{◌≡◌, ℕ, ◌+◌, ◌<◌, Bool, true, false, List, [], ◌∷◌, ◌++◌, length, ◌==◌, Option, Some, None}
use Rattle.fields.specs.declared.Tabs.{Tabs}
use Rattle.fields.specs.Bytes.{part}

-- a byte before the pieces that follow it: a mark begins a new piece, another byte joins the first
abbrev pub onto : Bool → ℕ → List (List ℕ) → List (List ℕ)
onto true b ls = [] ∷ ls
onto false b [] = (b ∷ []) ∷ []
onto false b (l ∷ ls) = (b ∷ l) ∷ ls

-- the pieces between the marks m; `end` is what stands behind the last byte
unfoldable pub cut : ℕ → List (List ℕ) → List ℕ → List (List ℕ)
cut m end [] = end
cut m end (b ∷ bs) = onto (b == m) b (cut m end bs)

-- "Text lines, each ended by byte 10"
abbrev pub lines : List ℕ → List (List ℕ)
lines s = cut 10 [] s

-- "fields parted by one tab (byte 9)"
abbrev pub fields : List ℕ → List (List ℕ)
fields l = cut 9 ([] ∷ []) l

-- the fields as one line, the lines as one text
unfoldable pub join : List (List ℕ) → List ℕ
join [] = []
join (f ∷ []) = f
join (f ∷ g ∷ fs) = f ++ 9 ∷ join (g ∷ fs)

unfoldable pub close : List (List ℕ) → List ℕ
close [] = []
close (l ∷ ls) = l ++ 10 ∷ close ls

-- no byte of a piece is m; no byte of any piece is
abbrev pub Clear : ℕ → List ℕ → Type 0
Clear m [] = Unit {0}
Clear m (b ∷ bs) = ((b == m) ≡ false) × Clear m bs

abbrev pub AllClear : ℕ → List (List ℕ) → Type 0
AllClear m [] = Unit {0}
AllClear m (l ∷ ls) = Clear m l × AllClear m ls

-- how many fields there are: one, two, four, or another number
pub data One : Type 0 where
  only : List ℕ → One
  not_one : One

pub data Two : Type 0 where
  two : (a b : List ℕ) → Two
  not_two : Two

pub data Four : Type 0 where
  four : (a b c d : List ℕ) → Four
  not_four : Four

abbrev pub as_one : List (List ℕ) → One
as_one [] = not_one
as_one (a ∷ []) = only a
as_one (a ∷ b ∷ cs) = not_one

abbrev pub as_two : List (List ℕ) → Two
as_two [] = not_two
as_two (a ∷ []) = not_two
as_two (a ∷ b ∷ []) = two a b
as_two (a ∷ b ∷ c ∷ ds) = not_two

abbrev pub as_four : List (List ℕ) → Four
as_four [] = not_four
as_four (a ∷ []) = not_four
as_four (a ∷ b ∷ []) = not_four
as_four (a ∷ b ∷ c ∷ []) = not_four
as_four (a ∷ b ∷ c ∷ d ∷ []) = four a b c d
as_four (a ∷ b ∷ c ∷ d ∷ e ∷ es) = not_four

-- what the code's answers say of the fields of l: the places of the tabs between them
abbrev pub IsOne : List ℕ → Bool → Type 0
IsOne l true = as_one (fields l) ≡ only l
IsOne l false = as_one (fields l) ≡ not_one

abbrev pub CutsTwo : List ℕ → Option ℕ → Type 0
CutsTwo l (Some b) = (b < length l) × (as_two (fields l) ≡ two (part l 0 b) (part l (b + 1) (length l)))
CutsTwo l None = as_two (fields l) ≡ not_two

abbrev pub tabs : (first second third : ℕ) → Tabs
tabs b c d = record { first = b; second = c; third = d }

abbrev pub CutsFour : List ℕ → Option Tabs → Type 0
CutsFour l (Some t) =
    (t.first < t.second) × (t.second < t.third) × (t.third < length l)
    × (as_four (fields l) ≡ four (part l 0 t.first) (part l (t.first + 1) t.second) (part l (t.second + 1) t.third) (part l (t.third + 1) (length l)))
CutsFour l None = as_four (fields l) ≡ not_four
