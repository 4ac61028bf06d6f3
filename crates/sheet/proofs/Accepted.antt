-- What reading tells of a sheet: it is kept, and then it is as `Accepted` says, or it is refused by a number of the table. Each line keeps the
-- limits, and no move or stop stands before the last feature; so the numbers of features in guards stay declared. Assumes nothing.
use Rattle.std.proofs.Common.{Option, Some, None, ◌≡◌, refl, sym, Bool, true, false, not, ◌&&◌, List, [], ◌∷◌, ℕ, suc, ◌+◌, ◌-◌, ◌^◌, ◌≤◌, ◌<◌, arith, eqb, leb, ltb, length, pow_mono}
use mathlib.Core.Bool.{and-eq-true_iff, false≢true}
use mathlib.Core.List.{Memᴰ}
use borrow.Author.Tests.{leb-true, leb-false, le-leb, not-false}
use Rattle.text.specs.Text.{decimal}
use Rattle.refusals.specs.declared.Reason.TheVariants as because
use Rattle.refusals.specs.declared.Reason.{Reason}
use Rattle.refusals.specs.declared.Refusal.{Refusal}
use Rattle.refusals.specs.Refusal.{number_of, refusal}
use Rattle.fields.specs.Bytes.{same_bytes, is_name, is_action, read_state}
use Rattle.fields.specs.Cutting.{lines, fields, One, only, not_one, Two, two, not_two, Four, four, not_four, as_one, as_two, as_four}
use Rattle.values.proofs.States.{state_small, state_written}
use Rattle.guards.specs.Guard.{Guard, never, holds, print, Declared, nesting}
use Rattle.guards.specs.Reading.{Outcome, took, faulty, number, read_whole, GoodNames}
use Rattle.guards.proofs.Exactly.{whole_exactly, whole_faulty}
use Rattle.sheet.specs.Sheet.{Feature, Move, Stop, Sheet, names, is_valid}
use Rattle.sheet.specs.Reading.{State, Answer, kept, refused, refuse_if, place_behind, stated, guarded, go_on, is_known, moved, stopped, feature_word, valid_word, start_word, move_word, stop_word, edition_word, fts_line, feature_line, valid_line, start_line, guarded_move, move_line, stop_line, kind_in, by_kind, by_word, read_line, none, ended, read_lines, nothing, last, read_sheet}
use Rattle.sheet.specs.Accepted.{GoodGuard, GoodMove, GoodMoves, GoodStop, GoodStops, Accepted}
use Rattle.sheet.proofs.Rows.{names_length}
use Rattle.sheet.proofs.LineKinds.{by_kind_lem}
use Rattle.sheet.proofs.ValidProducts.{some, valid_both}

-- a number of the table of refusals for sheets
abbrev InTable : ℕ → Type 0
InTable e = (leb 1 e && leb e 10) ≡ true

-- an answer that is refused with the property R, or kept with the property P
pub data Tells {A : Type 0} (R : Refusal → Type 0) (P : A → Type 0) : Answer A → Type 0 where
  keeps : {x : A} → P x → Tells R P (kept x)
  refuses : {q : Refusal} → R q → Tells R P (refused q)

pub told_kept : {A : Type 0} {R : Refusal → Type 0} {P : A → Type 0} {a : Answer A} {x : A} → Tells R P a → a ≡ kept x → P x
told_kept {x = x} (keeps {x = y} p) e = let z : y ≡ x = cc in rw z at p
told_kept (refuses h) e = let z : ◌≡◌ {A = ℕ} 0 1 = cc in absurd (omega arith)

pub told_refused : {A : Type 0} {R : Refusal → Type 0} {P : A → Type 0} {a : Answer A} {q : Refusal} → Tells R P a → a ≡ refused q → R q
told_refused (keeps p) e = let z : ◌≡◌ {A = ℕ} 0 1 = cc in absurd (omega arith)
told_refused {q = q} (refuses {q = d} h) e = let z : d ≡ q = cc in rw z at h

-- an answer that is refused by a number of the table, or kept with the property P
abbrev pub Told : {A : Type 0} → (A → Type 0) → Answer A → Type 0
Told P a = Tells (λ q. InTable q.number) P a

-- ---- what each test tells

pub told_by : {A : Type 0} {R : Refusal → Type 0} {P : A → Type 0} {a : Answer A} (q : Refusal) (t : Bool) → (t ≡ true → R q) → (t ≡ false → Tells R P a)
    → Tells R P (refuse_if t q a)
told_by q true h f = refuses (h refl)
told_by q false h f = f refl

pub told_if : {A : Type 0} {R : Refusal → Type 0} {P : A → Type 0} {a : Answer A} (q : Refusal) (t : Bool) → R q → (t ≡ false → Tells R P a)
    → Tells R P (refuse_if t q a)
told_if q t h f = told_by q t (λ e. h) f

module _ {R : Refusal → Type 0} {P : State → Type 0} (n p : ℕ) where
  pub told_number : {k : ℕ → Answer State} (x : List ℕ) → (read_state x ≡ None → R (refusal because.BadField n p)) → ((q : ℕ) → read_state x ≡ Some q → Tells R P (k q))
      → Tells R P (stated n p (read_state x) k)
  told_number {k} x bad f = go (read_state x) refl
    where
      go : (o : Option ℕ) → read_state x ≡ o → Tells R P (stated n p o k)
      go None e = refuses (bad e)
      go (Some q) e = f q e

  pub told_outcome : {k : Guard → Answer State} (ns : List (List ℕ)) (x : List ℕ)
      → ((e : Reason) (from : List ℕ) → read_whole ns x ≡ faulty e from → R (refusal e n (p + (length x - length from))))
      → ((g : Guard) (rest : List ℕ) → read_whole ns x ≡ took g rest → Tells R P (k g))
      → Tells R P (guarded n p x (read_whole ns x) k)
  told_outcome {k} ns x bad f = go (read_whole ns x) refl
    where
      go : (o : Outcome) → read_whole ns x ≡ o → Tells R P (guarded n p x o k)
      go (faulty e from) q = refuses (bad e from q)
      go (took g rest) q = f g rest q

pub told_state : {P : State → Type 0} {k : ℕ → Answer State} (n p : ℕ) (x : List ℕ) → ((q : ℕ) → q ≤ 63 → x ≡ decimal q → Told P (k q))
    → Told P (stated n p (read_state x) k)
told_state n p x f = told_number n p x (λ e. refl) (λ q e. f q (state_small x e) (state_written x e))

pub told_guard : {P : State → Type 0} {k : Guard → Answer State} (n p : ℕ) (fs : List Feature) (x : List ℕ)
    → ((g : Guard) → GoodGuard (length fs) g → x ≡ print g (names fs) [] → Told P (k g))
    → Told P (guarded n p x (read_whole (names fs) x) k)
told_guard n p fs x f =
    told_outcome n p (names fs) x
    (λ e from q. let h = whole_faulty (names fs) x q in rw (le-leb 1 (number_of e) (omega (arith, h.0)), le-leb (number_of e) 10 (omega (arith, h.1))))
    (λ g rest q. let h = whole_exactly (names fs) x q in f g (record { declared = rw (names_length fs) at h.2; nested = h.3 }) h.1)

-- ---- what the lines so far keep

pub record Limits (s : Sheet) : Type 0 where
  pub few_features : length s.features ≤ 10
  pub names : GoodNames (names s.features)
  pub valid : GoodGuard (length s.features) s.valid
  pub start : s.start ≤ 63
  pub few_moves : length s.moves ≤ 256
  pub moves : GoodMoves (length s.features) s.moves
  pub stops : GoodStops (length s.features) s.stops

pub record Sound (st : State) : Type 0 where
  pub early : st.section ≤ 1 → (st.sheet.valid ≡ never) × (st.sheet.moves ≡ []) × (st.sheet.stops ≡ [])
  pub limits : Limits st.sheet

never_good : (n : ℕ) → GoodGuard n never
unfolding Declared nesting
never_good n = record { declared = tt; nested = omega arith }

not_known : (f : Option ℕ) → is_known f ≡ false → f ≡ None
not_known (Some i) e = absurd (false≢true (sym e))
not_known None e = refl

module _ (n at : ℕ) (st : State) (sound : Sound st) where
  fts_told : st.section ≤ 1 → (x : One) → Told Sound (fts_line n st x)
  unfolding fts_line
  fts_told h not_one = refuses refl
  fts_told h (only x) = told_if (refusal because.BadLine n 0) (not (same_bytes x edition_word)) refl (λ t. keeps (record { early = λ l. sound.early h; limits = sound.limits }))

  feature_told : st.section ≤ 1 → (x : One) → Told Sound (feature_line n at st x)
  unfolding feature_line names
  feature_told h not_one = refuses refl
  feature_told h (only x) =
      let e = sound.early h in
      let l = sound.limits in
      told_if (refusal because.TooManyLines n 0) (leb 10 (length st.sheet.features)) refl
      (λ few. told_if (refusal because.BadField n (place_behind (feature_word ∷ []))) (not (is_name x)) refl
      (λ good. told_if (refusal because.Repeat n (place_behind (feature_word ∷ []))) (is_known (number (names st.sheet.features) x)) refl
      (λ new. keeps (record {
        early = λ u. e;
        limits = record {
          few_features = leb-false 10 (length st.sheet.features) few;
          names = (not-false (is_name x) good, not_known (number (names st.sheet.features) x) new, l.names);
          valid = rw e.0 (never_good (suc (length st.sheet.features)));
          start = l.start;
          few_moves = l.few_moves;
          moves = rw e.1 tt;
          stops = rw e.2 tt;
        };
      }))))

  valid_told : (x : One) → Told Sound (valid_line n st x)
  unfolding valid_line
  valid_told not_one = refuses refl
  valid_told (only x) =
      let l = sound.limits in
      told_guard n (place_behind (valid_word ∷ [])) st.sheet.features x
      (λ g good text. keeps (record {
        early = λ u. absurd (omega arith);
        limits = record { few_features = l.few_features; names = l.names; valid = good; start = l.start; few_moves = l.few_moves; moves = l.moves; stops = l.stops };
      }))

  start_told : (x : One) → Told Sound (start_line n st x)
  unfolding start_line
  start_told not_one = refuses refl
  start_told (only x) =
      let l = sound.limits in
      told_state n (place_behind (start_word ∷ [])) x
      (λ q small text. keeps (record {
        early = λ u. absurd (omega arith);
        limits = record { few_features = l.few_features; names = l.names; valid = l.valid; start = small; few_moves = l.few_moves; moves = l.moves; stops = l.stops };
      }))

  move_told : (x : Four) → Told Sound (move_line n at st x)
  unfolding move_line guarded_move
  move_told not_four = refuses refl
  move_told (four f a t g) =
      let l = sound.limits in
      told_if (refusal because.TooManyLines n 0) (leb 256 (length st.sheet.moves)) refl
      (λ few. told_state n (place_behind (move_word ∷ [])) f
      (λ from lf ef. told_if (refusal because.BadField n (place_behind (move_word ∷ f ∷ []))) (not (is_action a)) refl
      (λ act. told_state n (place_behind (move_word ∷ f ∷ a ∷ [])) t
      (λ to lt et. told_guard n (place_behind (move_word ∷ f ∷ a ∷ t ∷ [])) st.sheet.features g
      (λ guard good eg. told_if (refusal because.Repeat n (place_behind (move_word ∷ []))) (moved from a to st.sheet.moves) refl
      (λ new. keeps (record {
        early = λ u. absurd (omega arith);
        limits = record {
          few_features = l.few_features;
          names = l.names;
          valid = l.valid;
          start = l.start;
          few_moves = leb-false 256 (length st.sheet.moves) few;
          moves = (record { from = lf; action = not-false (is_action a) act; to = lt; guard = good }, new, l.moves);
          stops = l.stops;
        };
      })))))))

  stop_told : (x : Two) → Told Sound (stop_line n st x)
  unfolding stop_line
  stop_told not_two = refuses refl
  stop_told (two q g) =
      let l = sound.limits in
      told_state n (place_behind (stop_word ∷ [])) q
      (λ state small es. told_guard n (place_behind (stop_word ∷ q ∷ [])) st.sheet.features g
      (λ guard good eg. told_if (refusal because.Repeat n (place_behind (stop_word ∷ []))) (stopped state st.sheet.stops) refl
      (λ new. keeps (record {
        early = λ u. absurd (omega arith);
        limits = record {
          few_features = l.few_features;
          names = l.names;
          valid = l.valid;
          start = l.start;
          few_moves = l.few_moves;
          moves = l.moves;
          stops = (record { state = small; guard = good }, new, l.stops);
        };
      }))))

  kind_told : (w : List ℕ) (fs : List (List ℕ)) → Told Sound (by_kind (kind_in st.section w) n at st fs)
  kind_told w fs =
      by_kind_lem st.section w (λ k. Told Sound (by_kind k n at st fs)) (λ e x. fts_told (omega arith) (as_one fs)) (λ e x. feature_told (omega arith) (as_one fs))
      (λ e x. valid_told (as_one fs)) (λ e x. start_told (as_one fs)) (λ e x. stop_told (as_two fs)) (λ e x. move_told (as_four fs)) (refuses refl)

word_told : (n at : ℕ) (st : State) → Sound st → (fs : List (List ℕ)) → Told Sound (by_word n at st fs)
word_told n at st sound [] = refuses refl
word_told n at st sound (w ∷ fs) = kind_told n (at + length w + 1) st sound w fs

-- ---- all lines, and the end

pub told_on : {R : Refusal → Type 0} {P : State → Type 0} {Q : Sheet → Type 0} {a : Answer State} {k : State → Answer Sheet} → Tells R P a
    → ((st : State) → P st → Tells R Q (k st)) → Tells R Q (go_on a k)
told_on (keeps {x = st} p) f = f st p
told_on (refuses h) f = refuses h

ended_told : (n : ℕ) (st : State) → Sound st → Told Accepted (ended n st)
unfolding ended
ended_told n st sound =
    let l = sound.limits in
    told_if (refusal because.BadLine n 0) (ltb st.section 3) refl
    (λ t. told_if (refusal because.NoValidProduct st.valid_line 0) (none (is_valid st.sheet) (2 ^ length st.sheet.features)) refl
    (λ found. keeps (record {
      few_features = l.few_features;
      names = l.names;
      valid = l.valid;
      start = l.start;
      few_moves = l.few_moves;
      moves = l.moves;
      stops = l.stops;
      allowed = some (is_valid st.sheet) (2 ^ length st.sheet.features) found;
    })))

pub line_told : (n at : ℕ) (st : State) → Sound st → (l : List ℕ) → Told Sound (read_line n at st l)
unfolding read_line
line_told n at st sound l = word_told n at st sound (fields l)

lines_told : (ls : List (List ℕ)) (n at : ℕ) (st : State) → Sound st → Told Accepted (read_lines n at st ls)
unfolding read_lines
lines_told [] n at st sound = ended_told n st sound
lines_told (l ∷ ls) n at st sound = told_on (line_told n at st sound l) (λ u. lines_told ls (n + 1) (at + length l + 1) u)

pub nothing_sound : Sound nothing
unfolding names
nothing_sound =
    record {
      early = λ u. (refl, refl, refl);
      limits = record { few_features = omega arith; names = tt; valid = never_good 0; start = omega arith; few_moves = omega arith; moves = tt; stops = tt };
    }

sheet_told : (s : List ℕ) → Told Accepted (read_sheet s)
unfolding read_sheet
sheet_told s =
    told_if (refusal because.SheetTooLong 0 0) (ltb 65536 (length s)) refl
    (λ few. told_if (refusal because.NoLastLineEnd 0 0) (not (eqb (last 0 s) 10)) refl
    (λ ends. lines_told (lines s) 1 0 nothing nothing_sound))

-- what is kept is within the limits, without repeats, and has a valid product
pub accepted : (s : List ℕ) {r : Sheet} → read_sheet s ≡ kept r → Accepted r
accepted s e = told_kept (sheet_told s) e

-- refusals have the numbers of the table
pub refused_number : (s : List ℕ) {q : Refusal} → read_sheet s ≡ refused q → (1 ≤ q.number) × (q.number ≤ 10)
refused_number s {q} e =
    let k = (and-eq-true_iff (leb 1 q.number) (leb q.number 10)).0 (told_refused (sheet_told s) e) in
    (leb-true 1 q.number k.0, leb-true q.number 10 k.1)

-- a product of such a sheet's features is below 1,024
pub product_below : {r : Sheet} {p : ℕ} → Accepted r → p < 2 ^ length r.features → p < 1024
product_below {r} ok l = let most : 2 ^ length r.features ≤ 1024 = pow_mono ok.few_features in omega arith

-- a valid product is one of them
pub valid_small : {r : Sheet} {p : ℕ} → Accepted r → is_valid r p ≡ true → (p < 2 ^ length r.features) × (holds r.valid p ≡ true) × (p < 1024)
valid_small {r} {p} ok e = let k = valid_both r p e in (k.0, k.1, product_below ok k.0)

-- a move of the sheet is good, and so is a stop line
pub good_move : {n : ℕ} {m : Move} {ms : List Move} → GoodMoves n ms → Memᴰ m ms → GoodMove n m
good_move {n} g (Memᴰ.head e) = rw e g.0
good_move g (Memᴰ.tail i) = good_move g.2 i

pub good_stop : {n : ℕ} {d : Stop} {ds : List Stop} → GoodStops n ds → Memᴰ d ds → GoodStop n d
good_stop {n} g (Memᴰ.head e) = rw e g.0
good_stop g (Memᴰ.tail i) = good_stop g.2 i

-- no sheet is both kept and refused
pub kept_refused : (s : List ℕ) {r : Sheet} {q : Refusal} → read_sheet s ≡ kept r → read_sheet s ≡ refused q → ⊥
kept_refused s a b = let z : ◌≡◌ {A = ℕ} 0 1 = cc in omega arith
