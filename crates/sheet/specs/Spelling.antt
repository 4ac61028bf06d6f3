-- How a sheet is spelled: the fields of each line, the lines in order, the text. And when two sheets say the same, wherever they say it. Assumes
-- nothing: these are definitions.
use Rattle.std.specs.Prelude.{List, [], ◌∷◌, map, ◌≡◌, ℕ}
use Rattle.text.specs.Text.{decimal}
use Rattle.fields.specs.Cutting.{join, close}
use Rattle.guards.specs.Guard.{Guard, print}
use Rattle.sheet.specs.Sheet.{Feature, Move, Stop, Sheet, names}
use Rattle.sheet.specs.Reading.{fts_word, feature_word, valid_word, start_word, move_word, stop_word, edition_word}

abbrev pub Fields : Type 0
Fields = List (List ℕ)

-- "`fts`, `1`"
abbrev pub fts_fields : Fields
fts_fields = fts_word ∷ edition_word ∷ []

-- "`feature`, name"
abbrev pub feature_fields : List ℕ → Fields
feature_fields x = feature_word ∷ x ∷ []

-- "`valid`, guard"
abbrev pub valid_fields : List (List ℕ) → Guard → Fields
valid_fields n g = valid_word ∷ print g n [] ∷ []

-- "`start`, state"
abbrev pub start_fields : ℕ → Fields
start_fields q = start_word ∷ decimal q ∷ []

-- "`move`, from, action, to, guard"
abbrev pub move_fields : List (List ℕ) → ℕ → List ℕ → ℕ → Guard → Fields
move_fields n from a to g = move_word ∷ decimal from ∷ a ∷ decimal to ∷ print g n [] ∷ []

-- "`stop`, state, guard"
abbrev pub stop_fields : List (List ℕ) → ℕ → Guard → Fields
stop_fields n q g = stop_word ∷ decimal q ∷ print g n [] ∷ []

abbrev pub feature_row : Feature → Fields
feature_row f = feature_fields f.name

abbrev pub move_row : List (List ℕ) → Move → Fields
move_row n m = move_fields n m.from m.action m.to m.guard

abbrev pub stop_row : List (List ℕ) → Stop → Fields
stop_row n d = stop_fields n d.state d.guard

-- the rows for a list that has the last line first, in order, before what follows them
unfoldable pub in_order : {A : Type 0} → (A → Fields) → List A → List Fields → List Fields
in_order row [] rest = rest
in_order row (x ∷ xs) rest = in_order row xs (row x ∷ rest)

abbrev pub rows_behind : Sheet → List Fields
rows_behind s =
    in_order feature_row s.features
    (valid_fields (names s.features) s.valid
    ∷ start_fields s.start
    ∷ in_order (move_row (names s.features)) s.moves (in_order (stop_row (names s.features)) s.stops []))

abbrev pub rows_of : Sheet → List Fields
rows_of s = fts_fields ∷ rows_behind s

unfoldable pub joined : List Fields → List (List ℕ)
joined [] = []
joined (r ∷ rs) = join r ∷ joined rs

-- "Text lines, each ended by byte 10, fields parted by one tab (byte 9). In this order": the text of a sheet
unfoldable pub text_of : Sheet → List ℕ
text_of s = close (joined (rows_of s))

-- ---- what a sheet says, wherever it says it

abbrev pub bare_feature : Feature → Feature
bare_feature f = record { name = f.name; place = 0 }

abbrev pub bare_move : Move → Move
bare_move m = record { line = 0; from = m.from; action = m.action; place = 0; to = m.to; guard = m.guard }

abbrev pub bare_stop : Stop → Stop
bare_stop d = record { line = 0; state = d.state; guard = d.guard }

-- the sheet with every line's number and every place set to 0
abbrev pub bare : Sheet → Sheet
bare s = record { features = map bare_feature s.features; valid = s.valid; start = s.start; moves = map bare_move s.moves; stops = map bare_stop s.stops }

-- two sheets that say the same
pub record Alike (r s : Sheet) : Type 0 where
  pub is : bare r ≡ bare s
