-- A sheet that is kept was spelled exactly as its text: each line that is kept is the row of what it adds. So a text is read as a sheet only if it
-- is that sheet's text. Assumes nothing.
use Rattle.std.proofs.Common.{◌≡◌, refl, sym, ap, ◌∙◌, not, List, [], ◌∷◌, ◌++◌, ℕ, zero, suc, ◌+◌, ◌^◌, ◌≤◌, arith, eqb, leb, ltb, length}
use borrow.Author.Tests.{eqb-true, ltb-false, not-false}
use Rattle.refusals.specs.declared.Reason.TheVariants as because
use Rattle.refusals.specs.Refusal.{refusal}
use Rattle.fields.specs.Bytes.{same_bytes, is_name, is_action}
use Rattle.fields.specs.Cutting.{lines, fields, join, close, One, only, not_one, Two, two, not_two, Four, four, not_four, as_one, as_two, as_four}
use Rattle.fields.proofs.Cuts.{join_fields, close_lines}
use Rattle.fields.proofs.Same.{same_true}
use Rattle.guards.specs.Reading.{number}
use Rattle.sheet.specs.Sheet.{Sheet, names, is_valid}
use Rattle.sheet.specs.Reading.{State, Answer, kept, place_behind, is_known, moved, stopped, fts_word, feature_word, valid_word, start_word, move_word, stop_word, edition_word, fts_line, feature_line, valid_line, start_line, guarded_move, move_line, stop_line, kind_in, by_kind, by_word, read_line, none, ended, read_lines, nothing, last, read_sheet}
use Rattle.sheet.proofs.LineKinds.{by_kind_lem}
use Rattle.sheet.proofs.Accepted.{Told, keeps, refuses, told_kept, told_if, told_state, told_guard, told_on}
use Rattle.sheet.specs.Spelling.{Fields, fts_fields, feature_fields, valid_fields, start_fields, move_fields, stop_fields, feature_row, move_row, stop_row, in_order, rows_of, joined, text_of, Alike}
use Rattle.sheet.proofs.ReadBack.{alike_text}

-- ---- the rows that a state has seen, before what follows them

abbrev rows_in : ℕ → Sheet → List Fields → List Fields
rows_in zero s rest = rest
rows_in (suc zero) s rest = fts_fields ∷ in_order feature_row s.features rest
rows_in (suc (suc zero)) s rest = fts_fields ∷ in_order feature_row s.features (valid_fields (names s.features) s.valid ∷ rest)
rows_in (suc (suc (suc zero))) s rest =
    fts_fields
    ∷ in_order feature_row s.features
    (valid_fields (names s.features) s.valid ∷ start_fields s.start ∷ in_order (move_row (names s.features)) s.moves rest)
rows_in (suc (suc (suc (suc k)))) s rest =
    fts_fields
    ∷ in_order feature_row s.features
    (valid_fields (names s.features) s.valid
    ∷ start_fields s.start
    ∷ in_order (move_row (names s.features)) s.moves (in_order (stop_row (names s.features)) s.stops rest))

-- what cannot have come yet
record Ordered (st : State) : Type 0 where
  features : st.section ≤ 0 → st.sheet.features ≡ []
  moves : st.section ≤ 2 → st.sheet.moves ≡ []
  stops : st.section ≤ 3 → st.sheet.stops ≡ []

rows_late : (k : ℕ) (s : Sheet) (rest : List Fields) → 3 ≤ k → (k ≤ 3 → s.stops ≡ []) → rows_in k s rest ≡ rows_in 4 s rest
unfolding in_order
rows_late zero s rest h e = absurd (omega arith)
rows_late (suc zero) s rest h e = absurd (omega arith)
rows_late (suc (suc zero)) s rest h e = absurd (omega arith)
rows_late (suc (suc (suc zero))) s rest h e = rw (e (omega arith))
rows_late (suc (suc (suc (suc k)))) s rest h e = refl

-- the line l leads from st to u: it is the row of what it adds
record Follows (st : State) (l : List ℕ) (u : State) : Type 0 where
  row : Fields
  is : l ≡ join row
  more : (rest : List Fields) → rows_in st.section st.sheet (row ∷ rest) ≡ rows_in u.section u.sheet rest
  ordered : Ordered u

-- ---- how many fields there are

pub by_one : (P : One → Type 0) (fs : Fields) → P not_one → ((x : List ℕ) → fs ≡ x ∷ [] → P (only x)) → P (as_one fs)
by_one P [] p f = p
by_one P (a ∷ []) p f = f a refl
by_one P (a ∷ b ∷ cs) p f = p

pub by_two : (P : Two → Type 0) (fs : Fields) → P not_two → ((x y : List ℕ) → fs ≡ x ∷ y ∷ [] → P (two x y)) → P (as_two fs)
by_two P [] p f = p
by_two P (a ∷ []) p f = p
by_two P (a ∷ b ∷ []) p f = f a b refl
by_two P (a ∷ b ∷ c ∷ ds) p f = p

pub by_four : (P : Four → Type 0) (fs : Fields) → P not_four → ((x y z w : List ℕ) → fs ≡ x ∷ y ∷ z ∷ w ∷ [] → P (four x y z w)) → P (as_four fs)
by_four P [] p f = p
by_four P (a ∷ []) p f = p
by_four P (a ∷ b ∷ []) p f = p
by_four P (a ∷ b ∷ c ∷ []) p f = p
by_four P (a ∷ b ∷ c ∷ d ∷ []) p f = f a b c d refl
by_four P (a ∷ b ∷ c ∷ d ∷ e ∷ es) p f = p

-- ---- one line

module _ (n at : ℕ) (st : State) (old : Ordered st) (l w : List ℕ) (fs : Fields) (is : l ≡ join (w ∷ fs)) where
  fts_follows : st.section ≡ 0 → w ≡ fts_word → Told (Follows st l) (fts_line n st (as_one fs))
  unfolding fts_line in_order
  fts_follows e ew =
      by_one (λ o. Told (Follows st l) (fts_line n st o)) fs (refuses refl)
      (λ x ef. told_if (refusal because.BadLine n 0) (not (same_bytes x edition_word)) refl
      (λ t. keeps (record {
        row = fts_fields;
        is = is ∙ rw (ew, ef, same_true x edition_word (not-false (same_bytes x edition_word) t));
        more = λ rest. rw (e, old.features (omega arith));
        ordered = record { features = λ u. absurd (omega arith); moves = λ u. old.moves (omega arith); stops = λ u. old.stops (omega arith) };
      })))

  feature_follows : st.section ≡ 1 → w ≡ feature_word → Told (Follows st l) (feature_line n at st (as_one fs))
  unfolding feature_line in_order
  feature_follows e ew =
      by_one (λ o. Told (Follows st l) (feature_line n at st o)) fs (refuses refl)
      (λ x ef. told_if (refusal because.TooManyLines n 0) (leb 10 (length st.sheet.features)) refl
      (λ few. told_if (refusal because.BadField n (place_behind (feature_word ∷ []))) (not (is_name x)) refl
      (λ good. told_if (refusal because.Repeat n (place_behind (feature_word ∷ []))) (is_known (number (names st.sheet.features) x)) refl
      (λ new. keeps (record {
        row = feature_fields x;
        is = is ∙ rw (ew, ef);
        more = λ rest. rw e;
        ordered = record { features = λ u. absurd (omega arith); moves = λ u. old.moves (omega arith); stops = λ u. old.stops (omega arith) };
      })))))

  valid_follows : st.section ≡ 1 → w ≡ valid_word → Told (Follows st l) (valid_line n st (as_one fs))
  unfolding valid_line
  valid_follows e ew =
      by_one (λ o. Told (Follows st l) (valid_line n st o)) fs (refuses refl)
      (λ x ef. told_guard n (place_behind (valid_word ∷ [])) st.sheet.features x
      (λ g good eg. keeps (record {
        row = valid_fields (names st.sheet.features) g;
        is = is ∙ rw (ew, ef, eg);
        more = λ rest. rw e;
        ordered = record { features = λ u. absurd (omega arith); moves = λ u. old.moves (omega arith); stops = λ u. old.stops (omega arith) };
      })))

  start_follows : st.section ≡ 2 → w ≡ start_word → Told (Follows st l) (start_line n st (as_one fs))
  unfolding start_line in_order
  start_follows e ew =
      by_one (λ o. Told (Follows st l) (start_line n st o)) fs (refuses refl)
      (λ x ef. told_state n (place_behind (start_word ∷ [])) x
      (λ q small eq. keeps (record {
        row = start_fields q;
        is = is ∙ rw (ew, ef, eq);
        more = λ rest. rw (e, old.moves (omega arith));
        ordered = record { features = λ u. absurd (omega arith); moves = λ u. absurd (omega arith); stops = λ u. old.stops (omega arith) };
      })))

  move_follows : st.section ≡ 3 → w ≡ move_word → Told (Follows st l) (move_line n at st (as_four fs))
  unfolding move_line guarded_move in_order
  move_follows e ew =
      by_four (λ o. Told (Follows st l) (move_line n at st o)) fs (refuses refl)
      (λ f a t g ef. told_if (refusal because.TooManyLines n 0) (leb 256 (length st.sheet.moves)) refl
      (λ few. told_state n (place_behind (move_word ∷ [])) f
      (λ from lf ff. told_if (refusal because.BadField n (place_behind (move_word ∷ f ∷ []))) (not (is_action a)) refl
      (λ act. told_state n (place_behind (move_word ∷ f ∷ a ∷ [])) t
      (λ to lt et. told_guard n (place_behind (move_word ∷ f ∷ a ∷ t ∷ [])) st.sheet.features g
      (λ guard good eg. told_if (refusal because.Repeat n (place_behind (move_word ∷ []))) (moved from a to st.sheet.moves) refl
      (λ new. keeps (record {
        row = move_fields (names st.sheet.features) from a to guard;
        is = is ∙ rw (ew, ef, ff, et, eg);
        more = λ rest. rw e;
        ordered = record { features = λ u. absurd (omega arith); moves = λ u. absurd (omega arith); stops = λ u. old.stops (omega arith) };
      }))))))))

  stop_follows : 3 ≤ st.section → w ≡ stop_word → Told (Follows st l) (stop_line n st (as_two fs))
  unfolding stop_line in_order
  stop_follows h ew =
      by_two (λ o. Told (Follows st l) (stop_line n st o)) fs (refuses refl)
      (λ q g ef. told_state n (place_behind (stop_word ∷ [])) q
      (λ state small es. told_guard n (place_behind (stop_word ∷ q ∷ [])) st.sheet.features g
      (λ guard good eg. told_if (refusal because.Repeat n (place_behind (stop_word ∷ []))) (stopped state st.sheet.stops) refl
      (λ new. keeps (record {
        row = stop_fields (names st.sheet.features) state guard;
        is = is ∙ rw (ew, ef, es, eg);
        more = λ rest. rows_late st.section st.sheet (stop_fields (names st.sheet.features) state guard ∷ rest) h old.stops;
        ordered = record { features = λ u. absurd (omega arith); moves = λ u. absurd (omega arith); stops = λ u. absurd (omega arith) };
      })))))

  kind_follows : Told (Follows st l) (by_kind (kind_in st.section w) n at st fs)
  kind_follows =
      by_kind_lem st.section w (λ k. Told (Follows st l) (by_kind k n at st fs)) fts_follows feature_follows valid_follows start_follows stop_follows move_follows
      (refuses refl)

word_follows : (n at : ℕ) (st : State) → Ordered st → (l : List ℕ) (fs : Fields) → l ≡ join fs → Told (Follows st l) (by_word n at st fs)
word_follows n at st old l [] is = refuses refl
word_follows n at st old l (w ∷ fs) is = kind_follows n (at + length w + 1) st old l w fs is

-- ---- all lines

-- the lines that are left are the rows that are left
record Rest (st : State) (ls : List (List ℕ)) (r : Sheet) : Type 0 where
  rows : List Fields
  are : ls ≡ joined rows
  all : rows_in st.section st.sheet rows ≡ rows_of r

rest_more : {st u : State} {l : List ℕ} {ls : List (List ℕ)} {r : Sheet} → Follows st l u → Rest u ls r → Rest st (l ∷ ls) r
unfolding joined
rest_more f t = record { rows = f.row ∷ t.rows; are = rw (f.is, t.are); all = f.more t.rows ∙ t.all }

told_keep : {A : Type 0} {P Q : A → Type 0} {a : Answer A} → ((x : A) → P x → Q x) → Told P a → Told Q a
told_keep f (keeps {x = x} p) = keeps (f x p)
told_keep f (refuses h) = refuses h

rest_lines : (ls : List (List ℕ)) (n at : ℕ) (st : State) → Ordered st → Told (Rest st ls) (read_lines n at st ls)
unfolding read_lines read_line ended joined
rest_lines [] n at st old =
    told_if (refusal because.BadLine n 0) (ltb st.section 3) refl
    (λ late. told_if (refusal because.NoValidProduct st.valid_line 0) (none (is_valid st.sheet) (2 ^ length st.sheet.features)) refl
    (λ found. keeps (record { rows = []; are = refl; all = rows_late st.section st.sheet [] (ltb-false st.section 3 late) old.stops })))
rest_lines (l ∷ ls) n at st old =
    told_on (word_follows n at st old l (fields l) (sym (join_fields l)))
    (λ u f. told_keep (λ r. rest_more f) (rest_lines ls (n + 1) (at + length l + 1) u f.ordered))

-- ---- the whole text

ends_ten : (b : ℕ) (bs : List ℕ) → last b bs ≡ 10 → (x : List ℕ) × (b ∷ bs ≡ x ++ 10 ∷ [])
unfolding last
ends_ten b [] e = ([], rw e)
ends_ten b (c ∷ bs) e = let z = ends_ten c bs e in (b ∷ z.0, ap (λ (l : List ℕ). b ∷ l) z.1)

closed : (s : List ℕ) → last 0 s ≡ 10 → close (lines s) ≡ s
unfolding last
closed [] e = absurd (omega arith)
closed (b ∷ bs) e = let z = ends_ten b bs e in rw z.1 (close_lines z.0)

-- s is the text of r, and not too long
pub record SpelledAs (s : List ℕ) (r : Sheet) : Type 0 where
  pub is : s ≡ text_of r
  pub short : length s ≤ 65536

sheet_spelled : (s : List ℕ) → Told (SpelledAs s) (read_sheet s)
unfolding read_sheet text_of
sheet_spelled s =
    told_if (refusal because.SheetTooLong 0 0) (ltb 65536 (length s)) refl
    (λ few. told_if (refusal because.NoLastLineEnd 0 0) (not (eqb (last 0 s) 10)) refl
    (λ ends. let ten = eqb-true (last 0 s) 10 (not-false (eqb (last 0 s) 10) ends) in
    told_keep
    (λ r t. record { is = sym (closed s ten) ∙ ap close t.are ∙ ap (λ (rows : List Fields). close (joined rows)) t.all; short = ltb-false 65536 (length s) few })
    (rest_lines (lines s) 1 0 nothing (record { features = λ u. refl; moves = λ u. refl; stops = λ u. refl }))))

-- what is kept is the text of the sheet that it is read as
pub kept_text : (s : List ℕ) {r : Sheet} → read_sheet s ≡ kept r → SpelledAs s r
kept_text s e = told_kept (sheet_spelled s) e

-- two texts that are read as sheets that say the same are the same
pub same_text : (s t : List ℕ) {r q : Sheet} → read_sheet s ≡ kept r → read_sheet t ≡ kept q → Alike r q → s ≡ t
same_text s t e f a = (kept_text s e).is ∙ alike_text a ∙ sym (kept_text t f).is
