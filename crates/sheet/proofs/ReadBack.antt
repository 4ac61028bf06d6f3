-- The text of an accepted sheet is read, and what is read says the same: only the lines' numbers and the places of names are the text's own.
-- The rows of the text are read one by one, and after each the state says what the rows so far say. Assumes nothing.
use Rattle.std.proofs.Common.{◌≡◌, refl, sym, ap, subst, ◌∙◌, true, List, [], ◌∷◌, ◌++◌, map, ℕ, ◌+◌, ◌≤◌, arith, length}
use mathlib.Core.List.Memᴰ
use mathlib.Core.List.{Memᴰ}
use borrow.Author.Tests.{le-ltb}
use lib.ListN.{length-map}
use Rattle.fields.specs.Cutting.{lines, join, close, Clear, AllClear}
use Rattle.fields.proofs.Cuts.{lines_closed}
use Rattle.guards.specs.Guard.{Guard, never}
use Rattle.guards.specs.Reading.{GoodNames}
use Rattle.sheet.specs.Sheet.{Feature, Move, Stop, Sheet, names, is_valid}
use Rattle.sheet.specs.Reading.{State, Answer, kept, go_on, moved, stopped, with_feature, with_valid, with_start, with_move, with_stop, read_line, ended, read_lines, nothing, last, read_sheet}
use Rattle.sheet.specs.Accepted.{GoodGuard, GoodMoves, GoodStops, Accepted}
use Rattle.sheet.specs.Spelling.{Fields, fts_fields, valid_fields, start_fields, feature_row, move_row, stop_row, in_order, rows_behind, rows_of, joined, text_of, bare_feature, bare_move, bare_stop, bare, Alike}
use Rattle.sheet.proofs.Rows.{names_length}
use Rattle.sheet.proofs.ValidProducts.{valid_found}
use Rattle.sheet.proofs.Written.{Plain, fts_plain, feature_plain, valid_plain, start_plain, move_plain, stop_plain, fts_kept, feature_kept, valid_kept, start_kept, move_kept, stop_kept}

-- ---- what a sheet says, wherever it says it

names_bare : (fs : List Feature) → names (map bare_feature fs) ≡ names fs
unfolding names
names_bare [] = refl
names_bare (f ∷ fs) = ap (λ (l : List (List ℕ)). f.name ∷ l) (names_bare fs)

moved_bare : (from : ℕ) (a : List ℕ) (to : ℕ) (ms : List Move) → moved from a to (map bare_move ms) ≡ moved from a to ms
unfolding moved
moved_bare from a to [] = refl
moved_bare from a to (m ∷ ms) = rw (moved_bare from a to ms)

stopped_bare : (q : ℕ) (ds : List Stop) → stopped q (map bare_stop ds) ≡ stopped q ds
unfolding stopped
stopped_bare q [] = refl
stopped_bare q (d ∷ ds) = rw (stopped_bare q ds)

module _ {r s : Sheet} (e : Alike r s) where
  pub alike_names : names r.features ≡ names s.features
  alike_names = sym (names_bare r.features) ∙ ap (λ (x : Sheet). names x.features) e.is ∙ names_bare s.features

  pub alike_features : length r.features ≡ length s.features
  alike_features = sym (names_length r.features) ∙ ap length alike_names ∙ names_length s.features

  alike_guard : {g : Guard} → GoodGuard (length s.features) g → GoodGuard (length r.features) g
  alike_guard h = rw alike_features h

  pub alike_moves : length r.moves ≡ length s.moves
  alike_moves = sym (length-map r.moves bare_move) ∙ ap (λ (x : Sheet). length x.moves) e.is ∙ length-map s.moves bare_move

  pub alike_moved : (from : ℕ) (a : List ℕ) (to : ℕ) → moved from a to r.moves ≡ moved from a to s.moves
  alike_moved from a to = sym (moved_bare from a to r.moves) ∙ ap (λ (x : Sheet). moved from a to x.moves) e.is ∙ moved_bare from a to s.moves

  pub alike_stopped : (q : ℕ) → stopped q r.stops ≡ stopped q s.stops
  alike_stopped q = sym (stopped_bare q r.stops) ∙ ap (λ (x : Sheet). stopped q x.stops) e.is ∙ stopped_bare q s.stops

  pub alike_valid : r.valid ≡ s.valid
  alike_valid = ap (λ (x : Sheet). x.valid) e.is

  pub alike_start : r.start ≡ s.start
  alike_start = ap (λ (x : Sheet). x.start) e.is

pub alike_back : {r s : Sheet} → Alike r s → Alike s r
alike_back e = record { is = sym e.is }

-- each move of the one has its like in the other, and each stop
pub alike_move : {r s : Sheet} {m : Move} → Alike r s → Memᴰ m r.moves → (k : Move) × Memᴰ k s.moves × (bare_move k ≡ bare_move m)
alike_move {r} {s} {m} e i = Memᴰ.of_map bare_move s.moves (subst (λ (x : Sheet). Memᴰ (bare_move m) x.moves) e.is (Memᴰ.map bare_move i))

pub alike_stop : {r s : Sheet} {d : Stop} → Alike r s → Memᴰ d r.stops → (k : Stop) × Memᴰ k s.stops × (bare_stop k ≡ bare_stop d)
alike_stop {r} {s} {d} e i = Memᴰ.of_map bare_stop s.stops (subst (λ (x : Sheet). Memᴰ (bare_stop d) x.stops) e.is (Memᴰ.map bare_stop i))

-- the text does not tell the numbers and places apart
bare_order : {A : Type 0} (row : A → Fields) (f : A → A) → ((x : A) → row (f x) ≡ row x) → (xs : List A) (rest : List Fields)
    → in_order row (map f xs) rest ≡ in_order row xs rest
unfolding in_order
bare_order row f e [] rest = refl
bare_order row f e (x ∷ xs) rest = bare_order row f e xs (row (f x) ∷ rest) ∙ ap (λ (r : Fields). in_order row xs (r ∷ rest)) (e x)

text_bare : (r : Sheet) → text_of (bare r) ≡ text_of r
unfolding text_of
text_bare r =
    let n = names r.features in
    rw (
      names_bare r.features,
      bare_order (stop_row n) bare_stop (λ d. refl) r.stops,
      bare_order (move_row n) bare_move (λ m. refl) r.moves,
      bare_order feature_row bare_feature (λ f. refl) r.features,
    )

pub alike_text : {r s : Sheet} → Alike r s → text_of r ≡ text_of s
alike_text {r} {s} e = sym (text_bare r) ∙ ap text_of e.is ∙ text_bare s

-- ---- reading row by row

-- the lines so far say what s says, and end in this section; and so behind `start`
record Says (section : ℕ) (s : Sheet) (st : State) : Type 0 where
  here : st.section ≡ section
  same : Alike st.sheet s

record Late (s : Sheet) (st : State) : Type 0 where
  late : 3 ≤ st.section
  same : Alike st.sheet s

-- the rows in front are read, and lead to a state with the property Q
record Through (front : List Fields → List Fields) (Q : State → Type 0) : Type 0 where
  line : ℕ
  place : ℕ
  state : State
  good : Q state
  reads : (rest : List Fields) → read_lines 1 0 nothing (joined (front rest)) ≡ read_lines line place state (joined rest)

-- one row more
through_row : {front : List Fields → List Fields} {Q P : State → Type 0} (row : Fields) → Through front Q
    → ((n at : ℕ) (st : State) → Q st → (u : State) × P u × (read_line n at st (join row) ≡ kept u)) → Through (λ rest. front (row ∷ rest)) P
unfolding read_lines joined
through_row row t f =
    let k = f t.line t.place t.state t.good in
    record {
      line = t.line + 1;
      place = t.place + length (join row) + 1;
      state = k.0;
      good = k.1;
      reads = λ rest. t.reads (row ∷ rest) ∙ ap (λ (a : Answer State). go_on a (λ u. read_lines (t.line + 1) (t.place + length (join row) + 1) u (joined rest))) k.2;
    }

-- ---- all rows of an accepted sheet

abbrev only_features : List Feature → Sheet
only_features fs = record { features = fs; valid = never; start = 0; moves = []; stops = [] }

features_through : (fs : List Feature) → length fs ≤ 10 → GoodNames (names fs) → Through (λ rest. fts_fields ∷ in_order feature_row fs rest) (Says 1 (only_features fs))
unfolding in_order names
features_through [] few good =
    through_row {Q = Says 0 (only_features [])} fts_fields
    (record { line = 1; place = 0; state = nothing; good = record { here = refl; same = record { is = refl } }; reads = λ rest. refl })
    (λ n at st q. (record { section = 1; valid_line = st.valid_line; sheet = st.sheet }, record { here = refl; same = q.same }, fts_kept n at st q.here))
features_through (f ∷ fs) few good =
    through_row (feature_row f) (features_through fs (omega arith) good.2)
    (λ n at st q. let e = alike_features q.same in (
      record { section = 1; valid_line = st.valid_line; sheet = with_feature st.sheet (record { name = f.name; place = _ }) },
      record { here = refl; same = record { is = ap (λ (x : Sheet). with_feature x (bare_feature f)) q.same.is } },
      feature_kept n at st f.name q.here (omega arith) good.0 (rw (alike_names q.same) good.1),
    ))

module _ (r : Sheet) (ok : Accepted r) where
  abbrev n : List (List ℕ)
  n = names r.features

  -- the rows before the moves
  abbrev head : List Fields → List Fields
  head rest = fts_fields ∷ in_order feature_row r.features (valid_fields n r.valid ∷ start_fields r.start ∷ rest)

  abbrev with_moves : List Move → List Stop → Sheet
  with_moves ms ds = record { features = r.features; valid = r.valid; start = r.start; moves = ms; stops = ds }

  head_through : Through head (Says 3 (with_moves [] []))
  head_through =
      through_row (start_fields r.start)
      (through_row {P = Says 2 (with_valid (only_features r.features) r.valid)} (valid_fields n r.valid)
      (features_through r.features ok.few_features ok.names)
      (λ l at st q. (
        record { section = 2; valid_line = l; sheet = with_valid st.sheet r.valid },
        record { here = refl; same = record { is = ap (λ (x : Sheet). with_valid x r.valid) q.same.is } },
        rw (alike_names q.same) at (valid_kept l at st (rw (alike_names q.same) ok.names) (alike_guard q.same ok.valid) q.here),
      )))
      (λ l at st q. (
        record { section = 3; valid_line = st.valid_line; sheet = with_start st.sheet r.start },
        record { here = refl; same = record { is = ap (λ (x : Sheet). with_start x r.start) q.same.is } },
        start_kept l at st r.start q.here ok.start,
      ))

  moves_through : (ms : List Move) → length ms ≤ 256 → GoodMoves (length r.features) ms → Through (λ rest. head (in_order (move_row n) ms rest)) (Says 3 (with_moves ms []))
  unfolding in_order
  moves_through [] few good = head_through
  moves_through (m ∷ ms) few good =
      through_row (move_row n m) (moves_through ms (omega arith) good.2)
      (λ l at st q. let e = alike_moves q.same in (
        _,
        record { here = refl; same = record { is = ap (λ (x : Sheet). with_move x (bare_move m)) q.same.is } },
        rw (alike_names q.same) at
            (move_kept l at st (rw (alike_names q.same) ok.names) (alike_guard q.same good.0.guard) m.from m.action m.to q.here (omega arith)
            good.0.from good.0.action good.0.to (rw (alike_moved q.same m.from m.action m.to) good.1)),
      ))

  all_through : (ds : List Stop) → GoodStops (length r.features) ds
      → Through (λ rest. head (in_order (move_row n) r.moves (in_order (stop_row n) ds rest))) (Late (with_moves r.moves ds))
  unfolding in_order
  all_through [] good =
      let t = moves_through r.moves ok.few_moves ok.moves in
      record { line = t.line; place = t.place; state = t.state; good = record { late = omega (arith, t.good.here); same = t.good.same }; reads = t.reads }
  all_through (d ∷ ds) good =
      through_row (stop_row n d) (all_through ds good.2)
      (λ l at st q. (
        _,
        record { late = omega arith; same = record { is = ap (λ (x : Sheet). with_stop x (bare_stop d)) q.same.is } },
        rw (alike_names q.same) at
            (stop_kept l at st (rw (alike_names q.same) ok.names) (alike_guard q.same good.0.guard) d.state q.late good.0.state
            (rw (alike_stopped q.same d.state) good.1)),
      ))

  -- ---- the end

  end_kept : (l : ℕ) (st : State) → Late r st → ended l st ≡ kept st.sheet
  unfolding ended
  end_kept l st q =
      let p = ok.allowed in
      let same : is_valid st.sheet p.0 ≡ true = rw (alike_features q.same, alike_valid q.same) p.1 in
      rw (le-ltb st.section 3 q.late, valid_found st.sheet p.0 same)

-- ---- no row of an accepted sheet has a tab or a line end in a field

clear_append : (m : ℕ) (x y : List ℕ) → Clear m x → Clear m y → Clear m (x ++ y)
clear_append m [] y c d = d
clear_append m (b ∷ x) y c d = (c.0, clear_append m x y c.1 d)

join_clear : (fs : Fields) → AllClear 10 fs → Clear 10 (join fs)
unfolding join
join_clear [] c = tt
join_clear (f ∷ []) c = c.0
join_clear (f ∷ g ∷ fs) c = clear_append 10 f (9 ∷ join (g ∷ fs)) c.0 (refl, join_clear (g ∷ fs) c.1)

abbrev pub AllPlain : List Fields → Type 0
AllPlain [] = Unit {0}
AllPlain (row ∷ rows) = Plain row × AllPlain rows

joined_clear : (rows : List Fields) → AllPlain rows → AllClear 10 (joined rows)
unfolding joined
joined_clear [] p = tt
joined_clear (row ∷ rows) p = (join_clear row p.0.end, joined_clear rows p.1)

-- the rows for a list, where what is good of the list makes the row of its first element plain
order_plain : {A : Type 0} {row : A → Fields} {Good : List A → Type 0} → ((x : A) (xs : List A) → Good (x ∷ xs) → Plain (row x) × Good xs)
    → (xs : List A) → Good xs → (rest : List Fields) → AllPlain rest → AllPlain (in_order row xs rest)
unfolding in_order
order_plain f [] good rest p = p
order_plain {row = row} f (x ∷ xs) good rest p = let k = f x xs good in order_plain f xs k.1 (row x ∷ rest) (k.0, p)

features_plain : (fs : List Feature) → GoodNames (names fs) → (rest : List Fields) → AllPlain rest → AllPlain (in_order feature_row fs rest)
unfolding names
features_plain = order_plain {Good = λ fs. GoodNames (names fs)} (λ f fs good. (feature_plain good.0, good.2))

module _ (fs : List Feature) (names-good : GoodNames (names fs)) where
  moves_plain : (ms : List Move) → GoodMoves (length fs) ms → (rest : List Fields) → AllPlain rest → AllPlain (in_order (move_row (names fs)) ms rest)
  moves_plain = order_plain {Good = GoodMoves (length fs)} (λ m ms good. (move_plain fs names-good good.0.guard m.from m.to good.0.action, good.2))

  stops_plain : (ds : List Stop) → GoodStops (length fs) ds → (rest : List Fields) → AllPlain rest → AllPlain (in_order (stop_row (names fs)) ds rest)
  stops_plain = order_plain {Good = GoodStops (length fs)} (λ d ds good. (stop_plain fs names-good good.0.guard d.state, good.2))

pub rows_plain : {r : Sheet} → Accepted r → AllPlain (rows_of r)
rows_plain {r} ok =
    let fs = r.features in
    let good = ok.names in (
      fts_plain,
      features_plain fs good _
          (valid_plain fs good ok.valid, (start_plain r.start, moves_plain fs good r.moves ok.moves _ (stops_plain fs good r.stops ok.stops [] tt))),
    )

-- ---- the whole text

last_append : (d b : ℕ) (x y : List ℕ) → last d (x ++ b ∷ y) ≡ last b y
unfolding last
last_append d b [] y = refl
last_append d b (c ∷ x) y = last_append c b x y

last_close : (ls : List (List ℕ)) → last 10 (close ls) ≡ 10
unfolding last close
last_close [] = refl
last_close (l ∷ ls) = last_append 10 10 l (close ls) ∙ last_close ls

text_ends : (r : Sheet) → last 0 (text_of r) ≡ 10
unfolding text_of joined close
text_ends r = last_append 0 10 (join fts_fields) (close (joined (rows_behind r))) ∙ last_close (joined (rows_behind r))

text_lines : {r : Sheet} → Accepted r → lines (text_of r) ≡ joined (rows_of r)
unfolding text_of
text_lines {r} ok = lines_closed (joined (rows_of r)) (joined_clear (rows_of r) (rows_plain ok))

-- the text of an accepted sheet is read as a sheet that says the same
pub read_back : (r : Sheet) → Accepted r → length (text_of r) ≤ 65536 → (s : Sheet) × (read_sheet (text_of r) ≡ kept s) × Alike s r
unfolding read_sheet joined read_lines
read_back r ok short =
    let t = all_through r ok r.stops ok.stops in (
      t.state.sheet,
      rw (le-ltb 65536 (length (text_of r)) short, text_ends r, text_lines ok) (t.reads [] ∙ end_kept r ok t.line t.state t.good),
      t.good.same,
    )
