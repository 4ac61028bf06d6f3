-- A line by its word, the end of the sheet, and the loop over the lines: what is left to read, after the lines so far, is what the whole sheet
-- reads as. Assumes nothing.
use Rattle.std.proofs.Common.{Result, Ok, Err, is_err, ◌≡◌, refl, sym, ap, subst, ◌∙◌, Bool, true, false, true≢false, ◌&&◌, ◌⊎◌, ⊎_elim, List, [], ◌∷◌, ℕ, suc, ◌+◌, ◌-◌, ◌*◌, ◌^◌, ◌≤◌, ◌<◌, min, ltb, length, get_or, drop, replicate, arith, pow_mono}
use borrow.Author.Tests.{eq-eqb, ne_eqb, lt-ltb, le-ltb}
use lib.ListN.{length-replicate}
use Rattle.products.specs.Sets.{has, one_if, In}
use Rattle.products.proofs.Laws.{empty_has, one_true}
use Rattle.refusals.specs.declared.Reason.TheVariants as because
use Rattle.refusals.specs.declared.Refusal.{Refusal}
use Rattle.refusals.specs.Refusal.{refusal}
use Rattle.fields.specs.Bytes.{part, FirstAt}
use Rattle.fields.specs.Cutting.{lines, fields}
use Rattle.fields.proofs.Parts.{part_length, part_rest}
use Rattle.fields.proofs.Cuts.{cut_more, cut_last, first_there, lines_more, lines_none}
use Rattle.guards.specs.Guard.{Means, holds}
use Rattle.sheet.specs.declared.Counts.{Counts}
use Rattle.sheet.specs.declared.Progress.{Progress}
use Rattle.sheet.specs.declared.LineKind.{LineKind}
use Rattle.sheet.specs.declared.LineKind.TheVariants.{Fts, Feature, Valid, Start, Move, Stop, Misplaced}
use Rattle.sheet.specs.declared.Section.{Section}
use Rattle.sheet.specs.declared.Section.TheVariants.{BeforeFts, AmongFeatures, BehindValid, BehindStart, BehindStop}
use Rattle.sheet.specs.Sheet.{Sheet, is_valid}
use Rattle.sheet.specs.Reading.{State, Answer, refused, go_on, kind_in, by_kind, by_word, fts_line, feature_line, valid_line, start_line, move_line, stop_line, read_line, ended, read_lines, nothing, last, read_sheet}
use Rattle.sheet.specs.Tables.{Tables, tables, blank_tables, Lies, Sized, ReadsSheet}
use Rattle.sheet.specs.Inside.{number_of, Stands, Says, SaysIn, Ends}
use Rattle.sheet.proofs.Rows.{rows_length, table_blank}
use Rattle.sheet.proofs.Marks.{marked_none}
use Rattle.sheet.proofs.ValidProducts.{none_true, valid_found}
use Rattle.sheet.proofs.Lines.{features_counted, filled_still}
use Rattle.sheet.proofs.Moves.{lies_part}
use Rattle.sheet.proofs.Weights.{line_weighs}

-- ---- a line by its word

-- no kind of line has one field only
alone : (k : LineKind) (n at : ℕ) (st : State) → by_kind k n at st [] ≡ refused (refusal because.BadLine n 0)
unfolding fts_line feature_line valid_line start_line move_line stop_line
alone Fts n at st = refl
alone Feature n at st = refl
alone Valid n at st = refl
alone Start n at st = refl
alone Move n at st = refl
alone Stop n at st = refl
alone Misplaced n at st = refl

module _ (l : List ℕ) {w : ℕ} (h : FirstAt l 9 0 w) (n at : ℕ) (st : State) where
  pub line_alone : length l ≤ w → read_line n at st l ≡ refused (refusal because.BadLine n 0)
  unfolding read_line
  line_alone e = ap (by_word n at st) (cut_last h e) ∙ alone (kind_in st.section l) n (at + length l + 1) st

  pub line_worded : {k : LineKind} {q : ℕ} → w < length l → q ≡ st.section → k ≡ kind_in q (part l 0 w)
      → read_line n at st l ≡ by_kind k n (at + w + 1) st (fields (part l (w + 1) (length l)))
  unfolding read_line
  line_worded {k} {q} e s d =
      let z : length (part l 0 w) ≡ w = part_length l 0 w (omega arith) ∙ omega arith in
      let y : kind_in st.section (part l 0 w) ≡ k = ap (λ (x : ℕ). kind_in x (part l 0 w)) (sym s) ∙ sym d in
      ap (by_word n at st) (cut_more h ([] ∷ []) e) ∙ rw (z, y, part_rest l (w + 1))

pub says_as : {s : List ℕ} {T : Tables} {seen : List ℕ} {r : Result Progress Refusal} {a b : Answer State} → a ≡ b → Says s T seen r b → Says s T seen r a
says_as e h = rw e h

-- the line by its kind, once the kind is known
pub line_of : (l : List ℕ) {w : ℕ} (h : FirstAt l 9 0 w) (n at : ℕ) (st : State) {k m : LineKind} {q : ℕ} {s : List ℕ} {T : Tables} {seen : List ℕ} {r : Result Progress Refusal}
    → w < length l → q ≡ st.section → k ≡ kind_in q (part l 0 w) → k ≡ m
    → Says s T seen r (by_kind m n (at + w + 1) st (fields (part l (w + 1) (length l)))) → Says s T seen r (read_line n at st l)
line_of l {w} h n at st e s d f g =
    says_as (line_worded l h n at st e s d ∙ ap (λ (x : LineKind). by_kind x n (at + w + 1) st (fields (part l (w + 1) (length l)))) f) g

-- a line lies in the sheet, and so does what stands behind its word
pub line_lies : (s : List ℕ) (at e : ℕ) → at ≤ e → e ≤ length s → Lies s (part s at e) at
line_lies s at e h k =
    let n = part_length s at e k in
    let z : at + length (part s at e) ≡ e = omega arith in
    record { within = omega arith; is = ap (part s at) z }

pub rest_lies : (s : List ℕ) (at e : ℕ) → at ≤ e → e ≤ length s → (w : ℕ) → w < length (part s at e)
    → Lies s (part (part s at e) (w + 1) (length (part s at e))) (at + w + 1)
rest_lies s at e h k w m =
    let z : at + (w + 1) ≡ at + w + 1 = omega arith in
    subst (Lies s (part (part s at e) (w + 1) (length (part s at e)))) z (lies_part (w + 1) (length (part s at e)) (line_lies s at e h k) (omega arith) (omega arith))

-- ---- the end of the sheet

one_and : (a b : Bool) → min (one_if b) (one_if a) ≡ one_if (a && b)
one_and true true = refl
one_and true false = refl
one_and false true = refl
one_and false false = refl

one_false : (b : Bool) → (one_if b ≡ 1 → ⊥) → b ≡ false
one_false true f = absurd (f refl)
one_false false f = refl

-- whether the start line has come
pub early : {k : Section} → (k ≡ BehindStart → ⊥) → (k ≡ BehindStop → ⊥) → number_of k < 3
early {k = BeforeFts} f g = omega arith
early {k = AmongFeatures} f g = omega arith
early {k = BehindValid} f g = omega arith
early {k = BehindStart} f g = absurd (f refl)
early {k = BehindStop} f g = absurd (g refl)

pub late : {k : Section} → (k ≡ BehindStart) ⊎ (k ≡ BehindStop) → 3 ≤ number_of k
late h = ⊎_elim (λ e. rw e (omega arith)) (λ e. rw e (omega arith)) h

module _ {s : List ℕ} {nm : List (List ℕ)} {v : List ℕ} {m g t d : List (List ℕ)} {seen : List ℕ} {c : Progress} {st : State}
    (so : Stands s (tables nm v m g t d) seen c st) (n : ℕ) where
  pub lacking : {T : Tables} {r : Result Counts Refusal} → number_of c.section < 3 → r ≡ Err (refusal because.BadLine n 0) → Ends s T r (ended n st)
  unfolding ended
  lacking l z = let e = so.section in record { is = rw z (rw (lt-ltb st.section 3 (omega arith))) }

  module _ (l : 3 ≤ number_of c.section) (x y : List ℕ) (both : (p : ℕ) → p < 1024 → has y p ≡ min (has v p) (has x p))
      (all : (p : ℕ) → p < 1024 → has x p ≡ one_if (ltb p (2 ^ c.features))) where
    come : ltb st.section 3 ≡ false
    come = let e = so.section in le-ltb st.section 3 (omega arith)

    pub allowed : (p : ℕ) → p < 1024 → has y p ≡ one_if (is_valid st.sheet p)
    unfolding Means
    allowed p h =
        both p h
        ∙ rw (so.valid p h, all p h, sym (features_counted so)) (one_and (ltb p (2 ^ length st.sheet.features)) (holds st.sheet.valid p))

    small : (p : ℕ) → p < 2 ^ length st.sheet.features → p < 1024
    small p h =
        let few = so.filled.names.few in
        let e = features_counted so in
        let k : 2 ^ length st.sheet.features ≤ 2 ^ 10 = pow_mono {j = 10} (omega arith) in
        omega arith

    pub no_product : {T : Tables} {r : Result Counts Refusal} → ((q : ℕ) → In y q → ⊥) → r ≡ Err (refusal because.NoValidProduct c.valid 0) → Ends s T r (ended n st)
    unfolding ended
    no_product k z =
        let i : (p : ℕ) → p < 2 ^ length st.sheet.features → is_valid st.sheet p ≡ false =
        λ p h. one_false (is_valid st.sheet p) (λ e. k p (record { small = small p h; is = allowed p (small p h) ∙ e })) in
        record { is = rw (z, so.valid_line) (rw (come, none_true (is_valid st.sheet) (2 ^ length st.sheet.features) i)) }

    pub finished : (q : ℕ) × In y q
        → Ends s (tables nm y m g t d) (Ok (record { features = c.features; start = c.start; moves = c.moves; stops = c.stops })) (ended n st)
    unfolding ended
    finished (q, k) =
        let i : is_valid st.sheet q ≡ true = one_true (is_valid st.sheet q) (sym (allowed q k.small) ∙ k.is) in
        record {
          is = (
            st.sheet,
            rw (come, valid_found st.sheet q i),
            record { start = so.start; valid = allowed; few = so.few; stops_few = so.stops_few; filled = filled_still so.filled },
          );
        }

-- ---- the loop over the lines

-- all lines of a sheet, from the first
abbrev pub from_top : List ℕ → Answer Sheet
from_top s = read_lines 1 0 nothing (lines s)

-- the lines so far stand for a state, and all lines read as what is left to read from there
pub record Going (s : List ℕ) (T : Tables) (seen : List ℕ) (c : Progress) (n at : ℕ) : Type 0 where
  pub state : State
  pub stands : Stands s T seen c state
  pub left : from_top s ≡ read_lines n at state (lines (drop at s))
  pub ends : get_or s (length s - 1) 0 ≡ 10
  pub within : at ≤ length s
  pub few : n ≤ at + 1
  pub light : c.moves * 13 + c.stops * 9 ≤ at

-- no row of any table, whatever the lengths
abbrev pub Blank : Tables → Type 0
Blank T = T ≡ blank_tables (length T.moves) (length T.move_guards) (length T.stops) (length T.stop_guards)

abbrev nothing_read : Progress
nothing_read = record { section = BeforeFts; valid = 0; features = 0; start = 0; moves = 0; stops = 0 }

going_from : {s : List ℕ} {T : Tables} (m g t h : ℕ) → T ≡ blank_tables m g t h → get_or s (length s - 1) 0 ≡ 10
    → Going s T (replicate 128 0) nothing_read 1 0
unfolding Means holds
going_from m g t h b e =
    rw b
    (record {
      state = nothing;
      stands = record {
        section = refl;
        valid_line = refl;
        start = refl;
        valid = λ p k. empty_has p;
        apart = tt;
        few = omega arith;
        stops_few = omega arith;
        filled = record { ten = refl; names = table_blank 10; moves = table_blank m; move_guards = table_blank g; stops = table_blank t; stop_guards = table_blank h };
        marked = marked_none;
      };
      left = refl;
      ends = e;
      within = omega arith;
      few = omega arith;
      light = omega arith;
    })

nothing_is : (c : Progress) → (c.section ≡ BeforeFts) × ((c.valid ≡ 0) × ((c.features ≡ 0) × ((c.start ≡ 0) × ((c.moves ≡ 0) × (c.stops ≡ 0))))) → c ≡ nothing_read
nothing_is c e i =
    record { section = e.0 i; valid = e.1.0 i; features = e.1.1.0 i; start = e.1.1.1.0 i; moves = e.1.1.1.1.0 i; stops = e.1.1.1.1.1 i }

pub going_start : {s : List ℕ} {T : Tables} (c : Progress)
    → (c.section ≡ BeforeFts) × ((c.valid ≡ 0) × ((c.features ≡ 0) × ((c.start ≡ 0) × ((c.moves ≡ 0) × (c.stops ≡ 0))))) → Blank T → get_or s (length s - 1) 0 ≡ 10
    → Going s T (replicate 128 0) c 1 0
going_start {T = T} c none b e = rw (nothing_is c none) (going_from (length T.moves) (length T.move_guards) (length T.stops) (length T.stop_guards) b e)

module _ {s : List ℕ} {T : Tables} {seen : List ℕ} {c : Progress} {n at : ℕ} (go : Going s T seen c n at) where
  module _ (l : at < length s) {e : ℕ} (h : FirstAt s 10 at e) where
    pub line_ends : (at ≤ e) × (e < length s)
    line_ends = let z = first_there h l go.ends in ((h.here z).0, z)

    turn : from_top s ≡ go_on (read_line n at go.state (part s at e)) (λ st. read_lines (n + 1) (e + 1) st (lines (drop (e + 1) s)))
    unfolding read_lines
    turn =
        let z = line_ends in
        let y : at + length (part s at e) + 1 ≡ e + 1 = omega (arith, part_length s at e (omega arith)) in
        go.left ∙ ap (read_lines n at go.state) (lines_more h z.1) ∙ rw y

    module _ {T' : Tables} {seen' : List ℕ} {r : Result Progress Refusal}
        (read : (st : State) → Stands s T seen c st → Says s T' seen' r (read_line n at st (part s at e))) where
      said : {q : Result Progress Refusal} → r ≡ q → SaysIn s T' seen' q (read_line n at go.state (part s at e))
      said q = subst (λ (x : Result Progress Refusal). SaysIn s T' seen' x (read_line n at go.state (part s at e))) q (read go.state go.stands).is

      pub going_refused : {T'' : Tables} {a : Result Counts Refusal} {x : Refusal} → r ≡ Err x → a ≡ Err x → Ends s T'' a (from_top s)
      going_refused q z = record { is = rw z (turn ∙ rw (said q)) }

      pub going_on : {d : Progress} → r ≡ Ok d → Going s T' seen' d (n + 1) (e + 1)
      going_on q =
          let y = said q in
          let z = line_ends in
          let few = go.few in
          let light = go.light in
          let long = part_length s at e (omega arith) in
          let more = line_weighs n at go.state (part s at e) y.1 in
          let a = rows_length go.stands.filled.moves.rows in
          let b = rows_length go.stands.filled.stops.rows in
          let c = rows_length y.2.filled.moves.rows in
          let d = rows_length y.2.filled.stops.rows in
          record { state = y.0; stands = y.2; left = turn ∙ rw y.1; ends = go.ends; within = omega arith; few = omega arith; light = omega arith }

  pub going_done : {T' : Tables} {r : Result Counts Refusal} → length s ≤ at → ((st : State) → Stands s T seen c st → Ends s T' r (ended n st)) → Ends s T' r (from_top s)
  unfolding read_lines
  going_done l f = rw (go.left ∙ ap (read_lines n at go.state) (lines_none s at l)) (f go.state go.stands)

-- ---- the outermost answer

last_at : (d : ℕ) (s : List ℕ) → 0 < length s → last d s ≡ get_or s (length s - 1) 0
unfolding last
last_at d [] h = absurd (omega arith)
last_at d (b ∷ []) h = refl
last_at d (b ∷ x ∷ s) h =
    let z : suc (suc (length s)) - 1 ≡ suc (suc (length s) - 1) = omega arith in
    last_at b (x ∷ s) (omega arith) ∙ rw z

last_none : (s : List ℕ) → length s ≡ 0 → last 0 s ≡ 0
unfolding last
last_none [] h = refl
last_none (b ∷ s) h = absurd (omega arith)

pub blank_own : {T : Tables} (m g t h : ℕ) → T ≡ blank_tables m g t h → Blank T
blank_own m g t h e =
    subst Blank (sym e)
    (rw (length-replicate m (replicate {A = ℕ} 5 0), length-replicate g (replicate {A = ℕ} 16 0), length-replicate t (replicate {A = ℕ} 2 0), length-replicate h (replicate {A = ℕ} 16 0)))

pub blank_sized : {T : Tables} (m g t h : ℕ) → T ≡ blank_tables m g t h → Sized m g t h T
blank_sized m g t h e =
    record {
      moves = ap (λ (T : Tables). length T.moves) e ∙ length-replicate m (replicate {A = ℕ} 5 0);
      move_guards = ap (λ (T : Tables). length T.move_guards) e ∙ length-replicate g (replicate {A = ℕ} 16 0);
      stops = ap (λ (T : Tables). length T.stops) e ∙ length-replicate t (replicate {A = ℕ} 2 0);
      stop_guards = ap (λ (T : Tables). length T.stop_guards) e ∙ length-replicate h (replicate {A = ℕ} 16 0);
    }

-- tables have as many rows as they have
pub own_sized : (T : Tables) → Sized (length T.moves) (length T.move_guards) (length T.stops) (length T.stop_guards) T
own_sized T = record { moves = refl; move_guards = refl; stops = refl; stop_guards = refl }

same_lent : {n : List (List ℕ)} {v : List ℕ} {a b c d m g t h : List (List ℕ)} → m ≡ a → g ≡ b → t ≡ c → h ≡ d → tables n v m g t h ≡ tables n v a b c d
same_lent {n} {v} p q r u i = record { names = n; valid = v; moves = p i; move_guards = q i; stops = r i; stop_guards = u i }

pub all_blank : {m g t h : List (List ℕ)} → m ≡ replicate (length m) (replicate 5 0) → g ≡ replicate (length g) (replicate 16 0)
    → t ≡ replicate (length t) (replicate 2 0) → h ≡ replicate (length h) (replicate 16 0) → Blank (tables (replicate 10 (replicate 2 0)) (replicate 16 0) m g t h)
all_blank p q r u = same_lent p q r u

module _ (s : List ℕ) where
  -- what the length alone refuses
  pub read_long : 65536 < length s → read_sheet s ≡ refused (refusal because.SheetTooLong 0 0)
  unfolding read_sheet
  read_long h = rw (lt-ltb 65536 (length s) h)

  pub read_empty : length s ≡ 0 → read_sheet s ≡ refused (refusal because.NoLastLineEnd 0 0)
  unfolding read_sheet
  read_empty h = rw (le-ltb 65536 (length s) (omega arith), last_none s h)

  -- the reader's promise, for tables T that are lent with so many rows
  module _ {m g t h : ℕ} {T : Tables} (lent : Sized m g t h T) where
    blank_lent : Blank T → T ≡ blank_tables m g t h
    blank_lent b = b ∙ rw (lent.moves, lent.move_guards, lent.stops, lent.stop_guards)

    pub sheet_long : {r : Result Counts Refusal} → Blank T → 65536 < length s → r ≡ Err (refusal because.SheetTooLong 0 0) → ReadsSheet m g t h s T r
    sheet_long b l z = rw z (read_long l, blank_lent b)

    pub sheet_empty : {r : Result Counts Refusal} → Blank T → length s ≡ 0 → r ≡ Err (refusal because.NoLastLineEnd 0 0) → ReadsSheet m g t h s T r
    sheet_empty b l z = rw z (read_empty l, blank_lent b)

    module _ (l : length s ≤ 65536) (some : length s ≡ 0 → ⊥) where
      pub sheet_open : {r : Result Counts Refusal} → Blank T → (get_or s (length s - 1) 0 ≡ 10 → ⊥) → r ≡ Err (refusal because.NoLastLineEnd 0 0) → ReadsSheet m g t h s T r
      unfolding read_sheet
      sheet_open b e z = rw z (rw (le-ltb 65536 (length s) l, last_at 0 s (omega arith), ne_eqb (get_or s (length s - 1) 0) 10 e), blank_lent b)

      module _ (e : get_or s (length s - 1) 0 ≡ 10) where
        begins : read_sheet s ≡ from_top s
        unfolding read_sheet
        begins = rw (le-ltb 65536 (length s) l, last_at 0 s (omega arith), eq-eqb (get_or s (length s - 1) 0) 10 e)

        pub sheet_refused : {U : Tables} {r : Result Counts Refusal} → Ends s U r (from_top s) → is_err r ≡ true → Blank T → ReadsSheet m g t h s T r
        sheet_refused {r = Ok c} f z b = absurd (true≢false (sym z))
        sheet_refused {r = Err q} f z b = (begins ∙ f.is, blank_lent b)

        pub sheet_kept : {r : Result Counts Refusal} → Ends s T r (from_top s) → is_err r ≡ false → ReadsSheet m g t h s T r
        sheet_kept {r = Ok c} f z = ((f.is.0, begins ∙ f.is.1, f.is.2), lent)
        sheet_kept {r = Err q} f z = absurd (true≢false z)
