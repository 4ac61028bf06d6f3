-- Reading a sheet: lines, then fields, then meanings, by the table of refusals. Assumes nothing: these are definitions.
use Rattle.std.specs.Prelude.{Bool, true, false, cond, not, ◌&&◌, ◌||◌, List, [], ◌∷◌, ℕ, zero, suc, ◌+◌, ◌-◌, ◌^◌, eqb, leb, ltb, length, Option, Some, None}
use Rattle.refusals.specs.declared.Reason.TheVariants as because
use Rattle.refusals.specs.declared.Refusal.{Refusal}
use Rattle.refusals.specs.Refusal.{refusal}
use Rattle.fields.specs.Bytes.{same_bytes, is_name, is_action, read_state}
use Rattle.fields.specs.Cutting.{lines, fields, One, only, not_one, Two, two, not_two, Four, four, not_four, as_one, as_two, as_four}
use Rattle.guards.specs.Guard.{Guard, never}
use Rattle.guards.specs.Reading.{Outcome, took, faulty, number, read_whole}
use Rattle.sheet.specs.declared.LineKind.{LineKind}
use Rattle.sheet.specs.declared.LineKind.TheVariants.{Fts, Feature, Valid, Start, Move, Stop, Misplaced}
use Rattle.sheet.specs.Sheet as sheets
use Rattle.sheet.specs.Sheet.{Sheet, names, is_valid}

-- what the lines so far say. Section: 0 before `fts`, 1 among the features, 2 behind `valid`, 3 behind `start`, 4 behind a `stop`
pub record State : Type 0 where
  pub section : ℕ
  pub valid_line : ℕ
  pub sheet : Sheet

-- "A refusal carries its number and the line it speaks of", and the place: "Every answer that passes a refusal on carries it."
pub data Answer (A : Type 0) : Type 0 where
  kept : A → Answer A
  refused : Refusal → Answer A

abbrev pub refuse_if : {A : Type 0} → Bool → Refusal → Answer A → Answer A
refuse_if true q a = refused q
refuse_if false q a = a

-- "where the field concerned begins", "counted from 1 in its line": the field that stands behind these, each with its tab
abbrev pub place_behind : List (List ℕ) → ℕ
place_behind [] = 1
place_behind (f ∷ fs) = length f + 1 + place_behind fs

-- "4: bad feature name, action or state": of line n, a state's field that begins at place p
abbrev pub stated : ℕ → ℕ → Option ℕ → (ℕ → Answer State) → Answer State
stated n p None k = refused (refusal because.BadField n p)
stated n p (Some q) k = k q

-- 5 to 7: "the place of the faulty byte", in the field x, which begins at place p of line n. The bytes bs are those from the faulty one on, so that "a
-- guard that ends too soon gives the place one past its last byte"
abbrev pub guarded : ℕ → ℕ → List ℕ → Outcome → (Guard → Answer State) → Answer State
guarded n p x (faulty e bs) k = refused (refusal e n (p + (length x - length bs)))
guarded n p x (took g rest) k = k g

abbrev pub go_on : Answer State → (State → Answer Sheet) → Answer Sheet
go_on (refused q) k = refused q
go_on (kept st) k = k st

-- "No feature name, no triple of from, action and to, and no state of a stop line comes twice."
abbrev pub is_known : Option ℕ → Bool
is_known (Some i) = true
is_known None = false

abbrev pub is_move : ℕ → List ℕ → ℕ → sheets.Move → Bool
is_move from action to m = eqb from m.from && (eqb to m.to && same_bytes m.action action)

unfoldable pub moved : ℕ → List ℕ → ℕ → List sheets.Move → Bool
moved from action to [] = false
moved from action to (m ∷ ms) = is_move from action to m || moved from action to ms

unfoldable pub stopped : ℕ → List sheets.Stop → Bool
stopped q [] = false
stopped q (d ∷ ds) = eqb q d.state || stopped q ds

-- the words that begin a line
abbrev pub fts_word : List ℕ
fts_word = 102 ∷ 116 ∷ 115 ∷ []

abbrev pub feature_word : List ℕ
feature_word = 102 ∷ 101 ∷ 97 ∷ 116 ∷ 117 ∷ 114 ∷ 101 ∷ []

abbrev pub valid_word : List ℕ
valid_word = 118 ∷ 97 ∷ 108 ∷ 105 ∷ 100 ∷ []

abbrev pub start_word : List ℕ
start_word = 115 ∷ 116 ∷ 97 ∷ 114 ∷ 116 ∷ []

abbrev pub move_word : List ℕ
move_word = 109 ∷ 111 ∷ 118 ∷ 101 ∷ []

abbrev pub stop_word : List ℕ
stop_word = 115 ∷ 116 ∷ 111 ∷ 112 ∷ []

abbrev pub edition_word : List ℕ
edition_word = 49 ∷ []

-- the sheet with one line more
abbrev pub with_feature : Sheet → sheets.Feature → Sheet
with_feature s f = record { features = f ∷ s.features; valid = s.valid; start = s.start; moves = s.moves; stops = s.stops }

abbrev pub with_valid : Sheet → Guard → Sheet
with_valid s g = record { features = s.features; valid = g; start = s.start; moves = s.moves; stops = s.stops }

abbrev pub with_start : Sheet → ℕ → Sheet
with_start s q = record { features = s.features; valid = s.valid; start = q; moves = s.moves; stops = s.stops }

abbrev pub with_move : Sheet → sheets.Move → Sheet
with_move s m = record { features = s.features; valid = s.valid; start = s.start; moves = m ∷ s.moves; stops = s.stops }

abbrev pub with_stop : Sheet → sheets.Stop → Sheet
with_stop s d = record { features = s.features; valid = s.valid; start = s.start; moves = s.moves; stops = d ∷ s.stops }

abbrev pub keep : ℕ → ℕ → Sheet → Answer State
keep section line s = kept (record { section = section; valid_line = line; sheet = s })

-- ---- the lines, each by its fields behind the word. n is the line's number, `at` the number of bytes before its second field.
-- "In a line: 3, then 8, then the fields from the left by 4 to 7, then 9." "Refusals 4 and 9 give where the field concerned begins, empty or not (for 9
-- on a move, of its from field), all others 0."

-- "A first line other than `fts`, tab, `1` is 3 at line 1."
unfoldable pub fts_line : ℕ → State → One → Answer State
fts_line n st not_one = refused (refusal because.BadLine n 0)
fts_line n st (only x) = refuse_if (not (same_bytes x edition_word)) (refusal because.BadLine n 0) (keep 1 st.valid_line st.sheet)

unfoldable pub feature_line : ℕ → ℕ → State → One → Answer State
feature_line n at st not_one = refused (refusal because.BadLine n 0)
feature_line n at st (only x) =
    refuse_if (leb 10 (length st.sheet.features)) (refusal because.TooManyLines n 0)
    (refuse_if (not (is_name x)) (refusal because.BadField n (place_behind (feature_word ∷ [])))
    (refuse_if (is_known (number (names st.sheet.features) x)) (refusal because.Repeat n (place_behind (feature_word ∷ [])))
    (keep 1 st.valid_line (with_feature st.sheet (record { name = x; place = at })))))

abbrev pub guard_in : State → List ℕ → Outcome
guard_in st x = read_whole (names st.sheet.features) x

unfoldable pub valid_line : ℕ → State → One → Answer State
valid_line n st not_one = refused (refusal because.BadLine n 0)
valid_line n st (only x) = guarded n (place_behind (valid_word ∷ [])) x (guard_in st x) (λ g. keep 2 n (with_valid st.sheet g))

unfoldable pub start_line : ℕ → State → One → Answer State
start_line n st not_one = refused (refusal because.BadLine n 0)
start_line n st (only x) = stated n (place_behind (start_word ∷ [])) (read_state x) (λ q. keep 3 st.valid_line (with_start st.sheet q))

-- a move whose states and action are good: its guard, which begins at place p, by 5 to 7, then 9
unfoldable pub guarded_move : ℕ → ℕ → State → ℕ → List ℕ → ℕ → ℕ → List ℕ → Answer State
guarded_move n p st from action place to g =
    guarded n p g (guard_in st g) (λ guard.
    refuse_if (moved from action to st.sheet.moves) (refusal because.Repeat n (place_behind (move_word ∷ [])))
    (keep 3 st.valid_line
    (with_move st.sheet (record { line = n; from = from; action = action; place = place; to = to; guard = guard }))))

unfoldable pub move_line : ℕ → ℕ → State → Four → Answer State
move_line n at st not_four = refused (refusal because.BadLine n 0)
move_line n at st (four f a t g) =
    refuse_if (leb 256 (length st.sheet.moves)) (refusal because.TooManyLines n 0)
    (stated n (place_behind (move_word ∷ [])) (read_state f) (λ from.
    refuse_if (not (is_action a)) (refusal because.BadField n (place_behind (move_word ∷ f ∷ [])))
    (stated n (place_behind (move_word ∷ f ∷ a ∷ [])) (read_state t) (λ to.
    guarded_move n (place_behind (move_word ∷ f ∷ a ∷ t ∷ [])) st from a (at + length f + 1) to g))))

unfoldable pub stop_line : ℕ → State → Two → Answer State
stop_line n st not_two = refused (refusal because.BadLine n 0)
stop_line n st (two q g) =
    stated n (place_behind (stop_word ∷ [])) (read_state q) (λ state.
    guarded n (place_behind (stop_word ∷ q ∷ [])) g (guard_in st g) (λ guard.
    refuse_if (stopped state st.sheet.stops) (refusal because.Repeat n (place_behind (stop_word ∷ [])))
    (keep 4 st.valid_line (with_stop st.sheet (record { line = n; state = state; guard = guard })))))

-- the kind of a line, by its word and the section that has come; "line unknown, misplaced" is no kind
abbrev pub kind_in : ℕ → List ℕ → LineKind
kind_in section w =
    cond (eqb section 0 && same_bytes w fts_word) Fts
    (cond (eqb section 1 && same_bytes w feature_word) Feature
    (cond (eqb section 1 && same_bytes w valid_word) Valid
    (cond (eqb section 2 && same_bytes w start_word) Start
    (cond (leb 3 section && same_bytes w stop_word) Stop
    (cond (eqb section 3 && same_bytes w move_word) Move
    Misplaced)))))

abbrev pub by_kind : LineKind → ℕ → ℕ → State → List (List ℕ) → Answer State
by_kind Fts n at st fs = fts_line n st (as_one fs)
by_kind Feature n at st fs = feature_line n at st (as_one fs)
by_kind Valid n at st fs = valid_line n st (as_one fs)
by_kind Start n at st fs = start_line n st (as_one fs)
by_kind Move n at st fs = move_line n at st (as_four fs)
by_kind Stop n at st fs = stop_line n st (as_two fs)
by_kind Misplaced n at st fs = refused (refusal because.BadLine n 0)

-- `at` is the number of bytes before the line. No line has one field only.
abbrev pub by_word : ℕ → ℕ → State → List (List ℕ) → Answer State
by_word n at st [] = refused (refusal because.BadLine n 0)
by_word n at st (w ∷ fs) = by_kind (kind_in st.section w) n (at + length w + 1) st fs

unfoldable pub read_line : ℕ → ℕ → State → List ℕ → Answer State
read_line n at st l = by_word n at st (fields l)

-- "After all lines: a lacking line (3), then 10": no product passes the test
unfoldable pub none : (ℕ → Bool) → ℕ → Bool
none t zero = true
none t (suc n) = not (t n) && none t n

unfoldable pub ended : ℕ → State → Answer Sheet
ended n st =
    refuse_if (ltb st.section 3) (refusal because.BadLine n 0)
    (refuse_if (none (is_valid st.sheet) (2 ^ length st.sheet.features)) (refusal because.NoValidProduct st.valid_line 0)
    (kept st.sheet))

-- "Order: 1, 2, then the lines from the top."
unfoldable pub read_lines : ℕ → ℕ → State → List (List ℕ) → Answer Sheet
read_lines n at st [] = ended n st
read_lines n at st (l ∷ ls) = go_on (read_line n at st l) (λ st'. read_lines (n + 1) (at + length l + 1) st' ls)

abbrev pub nothing : State
nothing = record { section = 0; valid_line = 0; sheet = record { features = []; valid = never; start = 0; moves = []; stops = [] } }

-- the last byte, or d
unfoldable pub last : ℕ → List ℕ → ℕ
last d [] = d
last d (b ∷ bs) = last b bs

-- "1: sheet over 65,536 bytes"; "2: sheet empty, or last byte is not 10"; "Lines are counted from 1."
unfoldable pub read_sheet : List ℕ → Answer Sheet
read_sheet s =
    refuse_if (ltb 65536 (length s)) (refusal because.SheetTooLong 0 0)
    (refuse_if (not (eqb (last 0 s) 10)) (refusal because.NoLastLineEnd 0 0)
    (read_lines 1 0 nothing (lines s)))
