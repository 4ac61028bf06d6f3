-- The line readers without a table of moves or stops: one law for each return, in the order of the code. A refusal is carried over as it is;
-- where a line is kept, the tables stand for the definition's new state. Assumes nothing.
use Rattle.std.proofs.Common.{Option, Some, None, is_some, Result, Ok, Err, IsErrAnd, ◌≡◌, refl, sym, ap, subst, ◌∙◌, Bool, true, false, List, [], ◌∷◌, ℕ, ◌+◌, ◌-◌, ◌≤◌, ◌<◌, min, leb, length, drop, arith, length-drop}
use borrow.Author.Tests.{le-leb, lt-leb}
use Rattle.std.proofs.Math.ListN.{set, length-set}
use Rattle.refusals.specs.declared.Reason.TheVariants as because
use Rattle.refusals.specs.declared.Refusal.{Refusal}
use Rattle.refusals.specs.Refusal.{refusal}
use Rattle.fields.specs.Bytes.{same_bytes, is_name, read_state}
use Rattle.fields.specs.Cutting.{fields, only, not_one, as_one, IsOne}
use Rattle.guards.specs.declared.Fault.{Fault}
use Rattle.guards.specs.Reading.{Outcome, number, names_of, read_whole, Reads}
use Rattle.sheet.specs.declared.Progress.{Progress}
use Rattle.sheet.specs.declared.Section.TheVariants.{AmongFeatures, BehindValid, BehindStart}
use Rattle.sheet.specs.Sheet.{Feature, Move, Stop, names}
use Rattle.sheet.specs.Reading.{State, Answer, kept, refused, place_behind, feature_word, start_word, edition_word, is_known, keep, with_feature, with_valid, with_start, fts_line, feature_line, valid_line, start_line}
use Rattle.sheet.specs.Tables.{Tables, tables, Lies, Filled}
use Rattle.sheet.specs.Inside.{Stands, Says, GuardsIn, Guards}
use Rattle.sheet.proofs.Rows.{rows_length, table_put, names_of_lem}

pub refuses : {s : List ℕ} {T : Tables} {seen : List ℕ} {r : Result Progress Refusal} {a : Answer State} {q : Refusal} → r ≡ Err q → a ≡ refused q → Says s T seen r a
refuses z h = record { is = rw z h }

pub keeps : {s : List ℕ} {T : Tables} {seen : List ℕ} {c : Progress} {a : Answer State} {st : State} → a ≡ kept st → Stands s T seen c st → Says s T seen (Ok c) a
keeps {st = st} q h = record { is = (st, q, h) }

-- what a `?` hands up
pub passed_up : {A E : Type 0} (r : Result A E) (e : E) → IsErrAnd r (λ x. x ≡ e) → r ≡ Err e
passed_up (Ok x) e h = absurd h
passed_up (Err x) e h = ap Err h

-- ---- one field or not

module _ (l : List ℕ) (o : Bool) (h : IsOne l o) where
  pub not_one_lem : o ≡ false → as_one (fields l) ≡ not_one
  not_one_lem e = subst (IsOne l) e h

  pub is_one : o ≡ true → as_one (fields l) ≡ only l
  is_one e = subst (IsOne l) e h

module _ (l : List ℕ) (o : Bool) (h : IsOne l o) (n : ℕ) (st : State) {s : List ℕ} {T : Tables} {seen : List ℕ} where
  -- ---- `fts`

  pub fts_wrong : {r : Result Progress Refusal} → o ≡ false → r ≡ Err (refusal because.BadLine n 0) → Says s T seen r (fts_line n st (as_one (fields l)))
  unfolding fts_line
  fts_wrong e z = refuses z (ap (fts_line n st) (not_one_lem l o h e))

  pub fts_other : {y : Bool} {r : Result Progress Refusal} → o ≡ true → y ≡ same_bytes l edition_word → y ≡ false → r ≡ Err (refusal because.BadLine n 0)
      → Says s T seen r (fts_line n st (as_one (fields l)))
  unfolding fts_line
  fts_other {y} e k t z =
      let f : same_bytes l edition_word ≡ false = sym k ∙ t in
      refuses z (ap (fts_line n st) (is_one l o h e) ∙ rw f)

  pub fts_kept : {y : Bool} {c : Progress} → Stands s T seen c st → o ≡ true → y ≡ same_bytes l edition_word → y ≡ true
      → Says s T seen (Ok (record { section = AmongFeatures; valid = c.valid; features = c.features; start = c.start; moves = c.moves; stops = c.stops })) (fts_line n st (as_one (fields l)))
  unfolding fts_line
  fts_kept {y} so e k t =
      let f : same_bytes l edition_word ≡ true = sym k ∙ t in
      keeps (ap (fts_line n st) (is_one l o h e) ∙ rw f)
      (record { section = refl; valid_line = so.valid_line; start = so.start; valid = so.valid; apart = so.apart; few = so.few; stops_few = so.stops_few; filled = so.filled; marked = so.marked })

  -- ---- `start`

  pub start_wrong : {r : Result Progress Refusal} → o ≡ false → r ≡ Err (refusal because.BadLine n 0) → Says s T seen r (start_line n st (as_one (fields l)))
  unfolding start_line
  start_wrong e z = refuses z (ap (start_line n st) (not_one_lem l o h e))

  pub start_bad : {q : Option ℕ} {r : Result Progress Refusal} → o ≡ true → q ≡ None → q ≡ read_state l → r ≡ Err (refusal because.BadField n (place_behind (start_word ∷ []))) → Says s T seen r (start_line n st (as_one (fields l)))
  unfolding start_line
  start_bad e b k z =
      let f : read_state l ≡ None = sym k ∙ b in
      refuses z (ap (start_line n st) (is_one l o h e) ∙ rw f)

  pub start_kept : {q : Option ℕ} {v : ℕ} {c : Progress} → Stands s T seen c st → o ≡ true → q ≡ Some v → q ≡ read_state l
      → Says s T seen (Ok (record { section = BehindStart; valid = c.valid; features = c.features; start = v; moves = c.moves; stops = c.stops })) (start_line n st (as_one (fields l)))
  unfolding start_line
  start_kept {v = v} so e b k =
      let f : read_state l ≡ Some v = sym k ∙ b in
      keeps {st = record { section = 3; valid_line = st.valid_line; sheet = with_start st.sheet v }} (ap (start_line n st) (is_one l o h e) ∙ rw f)
      (record { section = refl; valid_line = so.valid_line; start = refl; valid = so.valid; apart = so.apart; few = so.few; stops_few = so.stops_few; filled = so.filled; marked = so.marked })

-- ---- what the names' rows and a guard's answer say

-- the names in the table are the features' names
pub names_stand : {s : List ℕ} {T : Tables} {seen : List ℕ} {c : Progress} {st : State} → Stands s T seen c st → names_of s T.names (min c.features 10) ≡ names st.sheet.features
names_stand {s} {T} {c} so =
    let few = so.filled.names.few in
    let e : min c.features 10 ≡ c.features = omega arith in
    ap (names_of s T.names) e ∙ names_of_lem s T.names so.filled.names.rows

-- so a guard that is read over the table's names is read over the features' names
pub guard_stands : {s : List ℕ} {T : Tables} {seen : List ℕ} {c : Progress} {st : State} {n u : ℕ} (x : List ℕ) {r : Result (Unit {0}) Refusal} {set : List ℕ} → Stands s T seen c st
    → Guards n u x r set (read_whole (names_of s T.names (min c.features 10)) x) → Guards n u x r set (read_whole (names st.sheet.features) x)
guard_stands {n = n} {u} x {r} {set} so h = subst (λ (ns : List (List ℕ)). Guards n u x r set (read_whole ns x)) (names_stand so) h

pub features_counted : {s : List ℕ} {T : Tables} {seen : List ℕ} {c : Progress} {st : State} → Stands s T seen c st → length st.sheet.features ≡ c.features
features_counted so = rows_length so.filled.names.rows

-- the set of valid products has no part in the rows
pub filled_still : {s : List ℕ} {nm : List (List ℕ)} {v w : List ℕ} {m g t d : List (List ℕ)} {i j k : ℕ} {fs : List Feature} {ms : List Move} {ds : List Stop}
    → Filled s (tables nm v m g t d) i j k fs ms ds → Filled s (tables nm w m g t d) i j k fs ms ds
filled_still h = record { ten = h.ten; names = h.names; moves = h.moves; move_guards = h.move_guards; stops = h.stops; stop_guards = h.stop_guards }

-- ---- a guard

-- what a guard's answer says, once its case is known
pub guards_as : {n u : ℕ} {x : List ℕ} {r q : Result (Unit {0}) Refusal} {set : List ℕ} {o : Outcome} → r ≡ q → Guards n u x r set o → GuardsIn n u x q set o
guards_as e h = rw e at h.is

module _ (n u : ℕ) (x : List ℕ) {o : Outcome} where
  -- the guard's place is behind the field's first byte by as many bytes as stand before the fault
  pub guard_refused : {f : Fault} {set : List ℕ} {r : Result (Unit {0}) Refusal} → Reads x 0 (Err f) set o → r ≡ Err (refusal f.reason n (u + f.at)) → Guards n u x r set o
  guard_refused {f} h e =
      let z : length x - length (drop f.at x) ≡ f.at = omega (arith, h.0, length-drop f.at x) in
      record { is = rw e (λ k. rw (h.1, z)) }

  pub guard_taken : {p : ℕ} {set : List ℕ} → Reads x 0 (Ok p) set o → Guards n u x (Ok tt) set o
  guard_taken h = record { is = (h.0, h.4, λ k. rw h.3) }

-- ---- `feature`

known_some : (f : Option ℕ) → is_known f ≡ is_some f
known_some (Some i) = refl
known_some None = refl

module _ (l : List ℕ) (o : Bool) (h : IsOne l o) (n at : ℕ) (st : State) {s : List ℕ} where
  pub feature_wrong : {T : Tables} {seen : List ℕ} {r : Result Progress Refusal} → o ≡ false → r ≡ Err (refusal because.BadLine n 0) → Says s T seen r (feature_line n at st (as_one (fields l)))
  unfolding feature_line
  feature_wrong e z = refuses z (ap (feature_line n at st) (not_one_lem l o h e))

  module _ (e : o ≡ true) {T : Tables} {seen : List ℕ} {c : Progress} (so : Stands s T seen c st) where
    pub feature_full : {r : Result Progress Refusal} → 10 ≤ c.features → r ≡ Err (refusal because.TooManyLines n 0) → Says s T seen r (feature_line n at st (as_one (fields l)))
    unfolding feature_line
    feature_full m z =
        let few = features_counted so in
        refuses z (ap (feature_line n at st) (is_one l o h e) ∙ rw (le-leb 10 (length st.sheet.features) (omega arith)))

    module _ (m : c.features < 10) where
      few : leb 10 (length st.sheet.features) ≡ false
      few = let z = features_counted so in lt-leb 10 (length st.sheet.features) (omega arith)

      pub feature_bad : {y : Bool} {r : Result Progress Refusal} → y ≡ is_name l → y ≡ false → r ≡ Err (refusal because.BadField n (place_behind (feature_word ∷ []))) → Says s T seen r (feature_line n at st (as_one (fields l)))
      unfolding feature_line
      feature_bad {y} k t z =
          let f : is_name l ≡ false = sym k ∙ t in
          refuses z (ap (feature_line n at st) (is_one l o h e) ∙ rw (few, f))

      module _ {y : Bool} (k : y ≡ is_name l) (t : y ≡ true) {f : Option ℕ} (q : f ≡ number (names_of s T.names (min c.features 10)) l) {b : Bool} (z : b ≡ is_some f) where
        good : is_name l ≡ true
        good = sym k ∙ t

        here : is_known (number (names st.sheet.features) l) ≡ b
        here = ap (λ (ns : List (List ℕ)). is_known (number ns l)) (sym (names_stand so)) ∙ ap is_known (sym q) ∙ known_some f ∙ sym z

        pub feature_repeat : {r : Result Progress Refusal} → b ≡ true → r ≡ Err (refusal because.Repeat n (place_behind (feature_word ∷ []))) → Says s T seen r (feature_line n at st (as_one (fields l)))
        unfolding feature_line
        feature_repeat a w = refuses w (ap (feature_line n at st) (is_one l o h e) ∙ rw (few, good, here ∙ a))

        kept_feature : b ≡ false → feature_line n at st (as_one (fields l)) ≡ keep 1 st.valid_line (with_feature st.sheet (record { name = l; place = at }))
        unfolding feature_line
        kept_feature a = ap (feature_line n at st) (is_one l o h e) ∙ rw (few, good, here ∙ a)

pub feature_kept : (l : List ℕ) (o : Bool) (h : IsOne l o) (n at : ℕ) (st : State) {s : List ℕ} (e : o ≡ true)
    {nm : List (List ℕ)} {v : List ℕ} {m g t d : List (List ℕ)} {seen : List ℕ} {c : Progress} (so : Stands s (tables nm v m g t d) seen c st)
    → c.features < 10 → {y : Bool} → y ≡ is_name l → y ≡ true → {f : Option ℕ} → f ≡ number (names_of s nm (min c.features 10)) l → {b : Bool} → b ≡ is_some f → b ≡ false
    → Lies s l at
    → Says s (tables (set nm c.features (at ∷ (at + length l) ∷ [])) v m g t d) seen
    (Ok (record { section = AmongFeatures; valid = c.valid; features = c.features + 1; start = c.start; moves = c.moves; stops = c.stops }))
    (feature_line n at st (as_one (fields l)))
feature_kept l o h n at st e so few k t q z a lies =
    keeps (kept_feature l o h n at st e so few k t q z a)
    (record {
      section = refl;
      valid_line = so.valid_line;
      start = so.start;
      valid = so.valid;
      apart = so.apart;
      few = so.few;
      stops_few = so.stops_few;
      filled = record {
        ten = simp length-set so.filled.ten;
        names = table_put so.filled.names (omega (arith, so.filled.ten)) (record { lies = lies; is = refl });
        moves = so.filled.moves;
        move_guards = so.filled.move_guards;
        stops = so.filled.stops;
        stop_guards = so.filled.stop_guards;
      };
      marked = so.marked;
    })

-- ---- `valid`

module _ (l : List ℕ) (o : Bool) (h : IsOne l o) (n : ℕ) (st : State) {s : List ℕ} where
  pub valid_wrong : {T : Tables} {seen : List ℕ} {r : Result Progress Refusal} → o ≡ false → r ≡ Err (refusal because.BadLine n 0) → Says s T seen r (valid_line n st (as_one (fields l)))
  unfolding valid_line
  valid_wrong e z = refuses z (ap (valid_line n st) (not_one_lem l o h e))

  module _ (e : o ≡ true) {x : List ℕ} {w : Result (Unit {0}) Refusal} {nm : List (List ℕ)} {v : List ℕ} {m g t d : List (List ℕ)} {seen : List ℕ} {c : Progress}
      (so : Stands s (tables nm v m g t d) seen c st) (q : Guards n 7 l w x (read_whole (names_of s nm (min c.features 10)) l)) where
    pub valid_refused : {T : Tables} {f : Refusal} {r : Result Progress Refusal} → w ≡ Err f → r ≡ Err f → Says s T seen r (valid_line n st (as_one (fields l)))
    unfolding valid_line
    valid_refused a z =
        let y = guards_as a (guard_stands l so q) in
        refuses z (ap (valid_line n st) (is_one l o h e) ∙ y _)

    pub valid_kept : {u : Unit {0}} → w ≡ Ok u
        → Says s (tables nm x m g t d) seen
        (Ok (record { section = BehindValid; valid = n; features = c.features; start = c.start; moves = c.moves; stops = c.stops }))
        (valid_line n st (as_one (fields l)))
    unfolding valid_line
    valid_kept a =
        let y = guards_as a (guard_stands l so q) in
        keeps (ap (valid_line n st) (is_one l o h e) ∙ y.2 (λ k. keep 2 n (with_valid st.sheet k)))
        (record {
          section = refl;
          valid_line = refl;
          start = so.start;
          valid = y.1;
          apart = so.apart;
          few = so.few;
          stops_few = so.stops_few;
          filled = filled_still so.filled;
          marked = so.marked;
        })
