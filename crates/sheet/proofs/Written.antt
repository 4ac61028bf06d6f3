-- A well-made line is kept: the fields of each kind of line, joined and read in their section, give the state with that line. Assumes nothing.
use Rattle.std.proofs.Common.{None, ◌≡◌, refl, ◌∙◌, true, false, List, [], ◌∷◌, ℕ, ◌+◌, ◌≤◌, ◌<◌, arith, length}
use mathlib.Core.List.{Memᴰ}
use borrow.Author.Tests.{ne_eqb, lt-leb}
use Rattle.text.specs.Text.{decimal}
use Rattle.text.proofs.Laws.{decimal_digits}
use Rattle.fields.specs.Bytes.{same_bytes, all_name_bytes, is_name, is_action}
use Rattle.fields.specs.Cutting.{join, Clear, AllClear}
use Rattle.fields.proofs.Cuts.{fields_joined}
use Rattle.values.proofs.Names.{name_names, action_names, names_clear}
use Rattle.values.proofs.States.{read_written}
use Rattle.guards.specs.Guard.{Guard, print}
use Rattle.guards.specs.Reading.{took, number, read_whole, GoodNames}
use Rattle.guards.proofs.RoundTrip.{whole_printed}
use Rattle.guards.proofs.Exactly.{print_clear}
use Rattle.sheet.specs.declared.LineKind.{LineKind}
use Rattle.sheet.specs.declared.LineKind.TheVariants as kind
use Rattle.sheet.specs.Sheet.{Feature, names}
use Rattle.sheet.specs.Reading.{State, moved, stopped, fts_word, feature_word, valid_word, start_word, move_word, stop_word, edition_word, with_feature, with_valid, with_start, with_move, with_stop, keep, fts_line, feature_line, valid_line, start_line, guarded_move, move_line, stop_line, kind_in, by_kind, read_line}
use Rattle.sheet.specs.Accepted.{GoodGuard}
use Rattle.sheet.specs.Spelling.{fts_fields, feature_fields, valid_fields, start_fields, move_fields, stop_fields}
use Rattle.sheet.proofs.Rows.{names_length}
use Rattle.sheet.proofs.LineKinds.{kind_stop}

-- ---- fields without tabs and line ends

-- no byte of the fields is a tab or a line end
pub record Plain (fs : List (List ℕ)) : Type 0 where
  pub tab : AllClear 9 fs
  pub end : AllClear 10 fs

plain_none : Plain []
plain_none = record { tab = tt; end = tt }

plain_more : {x : List ℕ} {fs : List (List ℕ)} → Clear 9 x × Clear 10 x → Plain fs → Plain (x ∷ fs)
plain_more c p = record { tab = (c.0, p.tab); end = (c.1, p.end) }

clear_digits : (m : ℕ) (x : List ℕ) → m < 48 → ((b : ℕ) → Memᴰ b x → (48 ≤ b) × (b ≤ 57)) → Clear m x
clear_digits m [] h f = tt
clear_digits m (b ∷ x) h f = (ne_eqb b m (λ e. omega (arith, (f b (Memᴰ.head refl)).0)), clear_digits m x h (λ c i. f c (Memᴰ.tail i)))

decimal_clear : (q : ℕ) → Clear 9 (decimal q) × Clear 10 (decimal q)
decimal_clear q = (clear_digits 9 (decimal q) (omega arith) (decimal_digits q), clear_digits 10 (decimal q) (omega arith) (decimal_digits q))

-- ---- guards over the features of a sheet

module _ (fs : List Feature) (names-good : GoodNames (names fs)) {g : Guard} (good : GoodGuard (length fs) g) where
  guard_read : read_whole (names fs) (print g (names fs) []) ≡ took g []
  guard_read = whole_printed (names fs) names-good g (rw (names_length fs) good.declared) good.nested

  guard_clear : Clear 9 (print g (names fs) []) × Clear 10 (print g (names fs) [])
  guard_clear =
      let c = print_clear (names fs) names-good g (rw (names_length fs) good.declared) [] in
      (c.0 tt, c.1 tt)

-- ---- the kinds of lines

pub fts_plain : Plain fts_fields
unfolding all_name_bytes
fts_plain = plain_more (names_clear fts_word refl) (plain_more (names_clear edition_word refl) plain_none)

pub feature_plain : {x : List ℕ} → is_name x ≡ true → Plain (feature_fields x)
unfolding all_name_bytes
feature_plain {x} good = plain_more (names_clear feature_word refl) (plain_more (names_clear x (name_names x good)) plain_none)

pub start_plain : (q : ℕ) → Plain (start_fields q)
unfolding all_name_bytes
start_plain q = plain_more (names_clear start_word refl) (plain_more (decimal_clear q) plain_none)

module _ (fs : List Feature) (names-good : GoodNames (names fs)) {g : Guard} (good : GoodGuard (length fs) g) where
  pub valid_plain : Plain (valid_fields (names fs) g)
  unfolding all_name_bytes
  valid_plain = plain_more (names_clear valid_word refl) (plain_more (guard_clear fs names-good good) plain_none)

  pub move_plain : (from : ℕ) {a : List ℕ} (to : ℕ) → is_action a ≡ true → Plain (move_fields (names fs) from a to g)
  unfolding all_name_bytes
  move_plain from {a} to act =
      plain_more (names_clear move_word refl)
      (plain_more (decimal_clear from)
      (plain_more (names_clear a (action_names a act).0) (plain_more (decimal_clear to) (plain_more (guard_clear fs names-good good) plain_none))))

  pub stop_plain : (q : ℕ) → Plain (stop_fields (names fs) q g)
  unfolding all_name_bytes
  stop_plain q = plain_more (names_clear stop_word refl) (plain_more (decimal_clear q) (plain_more (guard_clear fs names-good good) plain_none))

-- ---- one line

module _ (n at : ℕ) (st : State) where
  line_by : {k : LineKind} (w : List ℕ) (fs : List (List ℕ)) → kind_in st.section w ≡ k → Plain (w ∷ fs)
      → read_line n at st (join (w ∷ fs)) ≡ by_kind k n (at + length w + 1) st fs
  unfolding read_line
  line_by w fs e p = rw (fields_joined w fs p.tab, e)

  pub fts_kept : st.section ≡ 0 → read_line n at st (join fts_fields) ≡ keep 1 st.valid_line st.sheet
  unfolding same_bytes fts_line
  fts_kept e = line_by {k = kind.Fts} fts_word (edition_word ∷ []) (rw e) fts_plain

  pub feature_kept : (x : List ℕ) → st.section ≡ 1 → length st.sheet.features < 10 → is_name x ≡ true → number (names st.sheet.features) x ≡ None
      → read_line n at st (join (feature_fields x)) ≡ keep 1 st.valid_line (with_feature st.sheet (record { name = x; place = at + length feature_word + 1 }))
  unfolding same_bytes feature_line
  feature_kept x e few good new =
      line_by {k = kind.Feature} feature_word (x ∷ []) (rw e) (feature_plain good) ∙ rw (lt-leb 10 (length st.sheet.features) few, good, new)

  pub start_kept : (q : ℕ) → st.section ≡ 2 → q ≤ 63 → read_line n at st (join (start_fields q)) ≡ keep 3 st.valid_line (with_start st.sheet q)
  unfolding same_bytes start_line
  start_kept q e small = line_by {k = kind.Start} start_word (decimal q ∷ []) (rw e) (start_plain q) ∙ rw (read_written q (omega arith))

  module _ (names-good : GoodNames (names st.sheet.features)) {g : Guard} (good : GoodGuard (length st.sheet.features) g) where
    pub valid_kept : st.section ≡ 1 → read_line n at st (join (valid_fields (names st.sheet.features) g)) ≡ keep 2 n (with_valid st.sheet g)
    unfolding same_bytes valid_line
    valid_kept e =
        line_by {k = kind.Valid} valid_word (print g (names st.sheet.features) [] ∷ []) (rw e) (valid_plain st.sheet.features names-good good)
        ∙ rw (guard_read st.sheet.features names-good good)

    pub move_kept : (from : ℕ) (a : List ℕ) (to : ℕ) → st.section ≡ 3 → length st.sheet.moves < 256 → from ≤ 63 → is_action a ≡ true → to ≤ 63
        → moved from a to st.sheet.moves ≡ false
        → read_line n at st (join (move_fields (names st.sheet.features) from a to g))
        ≡ keep 3 st.valid_line
        (with_move st.sheet
        (record { line = n; from = from; action = a; place = at + length move_word + 1 + length (decimal from) + 1; to = to; guard = g }))
    unfolding same_bytes move_line guarded_move
    move_kept from a to e few lf act lt new =
        line_by {k = kind.Move} move_word (decimal from ∷ a ∷ decimal to ∷ print g (names st.sheet.features) [] ∷ []) (rw e)
        (move_plain st.sheet.features names-good good from to act)
        ∙ rw (
          lt-leb 256 (length st.sheet.moves) few,
          read_written from (omega arith),
          act,
          read_written to (omega arith),
          guard_read st.sheet.features names-good good,
          new,
        )

    pub stop_kept : (q : ℕ) → 3 ≤ st.section → q ≤ 63 → stopped q st.sheet.stops ≡ false
        → read_line n at st (join (stop_fields (names st.sheet.features) q g))
        ≡ keep 4 st.valid_line (with_stop st.sheet (record { line = n; state = q; guard = g }))
    unfolding same_bytes stop_line
    stop_kept q l small new =
        line_by {k = kind.Stop} stop_word (decimal q ∷ print g (names st.sheet.features) [] ∷ [])
        (kind_stop st.section l)
        (stop_plain st.sheet.features names-good good q)
        ∙ rw (read_written q (omega arith), guard_read st.sheet.features names-good good, new)
