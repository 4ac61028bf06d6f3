-- The clean sheet from its parts: laid one after another they are the text of a form, and the form is the clean form of the sheet that the tables
-- stand for. Assumes nothing.
use mathlib.Core.Path.{◌≡◌, refl, ap}
use mathlib.Core.List.{List, [], ◌∷◌}
use Prim.Native.Nat.{ℕ, ◌%◌, min}
use lib.ListN.{length, get_or}
use Rattle.text.specs.Text.{Wrote}
use Rattle.text.proofs.Laws.{wrote_then}
use Rattle.guards.specs.Reading.{names_of}
use Rattle.sheet.specs.declared.Counts.{Counts}
use Rattle.sheet.specs.Sheet.{Feature, Move, Stop, Sheet, names}
use Rattle.sheet.specs.Spelling.{feature_fields, valid_fields, start_fields, move_row, stop_row, text_of}
use Rattle.sheet.specs.Tables.{Rows, Tables, tables}
use Rattle.splitting.specs.Splitting.{in_set, guard_of}
use Rattle.normal.specs.Clean.{IsClean}
use Rattle.cleaning.specs.Laying.{Prepared}
use Rattle.cleaning.specs.Inside.{line_of, lines_of, RowMove, StopsBelow, FormOf}
use Rattle.cleaning.proofs.Texts.{text_parts}
use Rattle.cleaning.proofs.Established.{established}

-- features with these names
unfoldable named : List (List ℕ) → List Feature
named [] = []
named (x ∷ xs) = record { name = x; place = 0 } ∷ named xs

names_named : (xs : List (List ℕ)) → names (named xs) ≡ xs
unfolding names named
names_named [] = refl
names_named (x ∷ xs) = ap (λ (ys : List (List ℕ)). x ∷ ys) (names_named xs)

-- the `fts` line, the features, `valid`, `start`, the moves and the stops, laid one after another, are the form's text
pub whole_clean : {s valid order : List ℕ} {c : Counts} {ns moves guards sets : List (List ℕ)} {many : ℕ} {l a b d e f l' : List ℕ} {i j k m n o : ℕ}
    → Wrote l 0 (102 ∷ 116 ∷ 115 ∷ 9 ∷ 49 ∷ 10 ∷ []) a i
    → Wrote a i (lines_of feature_fields (names_of s ns (min c.features 10))) b j
    → Wrote b j (line_of (valid_fields (names_of s ns (min c.features 10)) (guard_of 0 (min c.features 10) (in_set valid)))) d k
    → Wrote d k (line_of (start_fields c.start)) e m
    → (ms : List Move) × Rows (λ i m. RowMove s (min c.features 10) moves guards sets (get_or order i 0 % 256) m) (min many 256) ms
    × Wrote e m (lines_of (move_row (names_of s ns (min c.features 10))) ms) f n
    → (ds : List Stop) × StopsBelow (min c.features 10) moves guards sets (min (min (min c.moves 256) (length moves)) (length guards)) 64 ds
    × Wrote f n (lines_of (stop_row (names_of s ns (min c.features 10))) ds) l' o
    → (t h : List (List ℕ)) → (form : Sheet) × FormOf s c (tables ns valid moves guards t h) sets order many form × Wrote l 0 (text_of form) l' o
whole_clean {s} {valid} {c = c} {ns} u v w x (ms, rows, y) (ds, below, z) t h =
    let n = names_of s ns (min c.features 10) in
    let form : Sheet = record { features = named n; valid = guard_of 0 (min c.features 10) (in_set valid); start = c.start; moves = ms; stops = ds } in (
      form,
      record { features = names_named n; valid = refl; start = refl; moves = rows; stops = below },
      rw (text_parts form, names_named n) (wrote_then u (wrote_then v (wrote_then w (wrote_then x (wrote_then y z))))),
    )

-- it is the clean sheet of the sheet that the tables stand for
pub lays : {s order : List ℕ} {c : Counts} {T : Tables} {sets : List (List ℕ)} {many : ℕ} {r : Sheet} {l l' : List ℕ} {n : ℕ} → Prepared s c T sets order many r
    → (f : Sheet) × FormOf s c T sets order many f × Wrote l 0 (text_of f) l' n → (vs : List ℕ) × IsClean r vs × Wrote l 0 vs l' n
lays {s} {order} {c} {T} {sets} {many} {r} p (f, form, w) =
    (text_of f, record { form = f; clean = established s c T sets p.first order many f r p.ready p.orders form; is = refl }, w)
