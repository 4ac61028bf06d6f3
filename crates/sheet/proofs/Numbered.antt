-- Line numbers of a sheet that is read: the line of a refusal, and the lines of an accepted sheet, have numbers of at most 65,537. Each line takes a byte
-- at least, and a lacking line is one behind the last. Assumes nothing.
use Rattle.std.proofs.Common.{◌≡◌, Bool, true, false, not, List, [], ◌∷◌, ℕ, suc, ◌+◌, ◌^◌, ◌≤◌, arith, eqb, leb, ltb, length}
use borrow.Author.Tests.{ltb-false}
use Rattle.refusals.specs.declared.Reason.TheVariants as because
use Rattle.refusals.specs.declared.Refusal.{Refusal}
use Rattle.refusals.specs.Refusal.{refusal}
use Rattle.fields.specs.Bytes.{same_bytes, is_name, is_action}
use Rattle.fields.specs.Cutting.{onto, cut, lines, fields, One, only, not_one, Two, two, not_two, Four, four, not_four, as_one, as_two, as_four}
use Rattle.guards.specs.Reading.{number}
use Rattle.sheet.specs.declared.LineKind.{LineKind}
use Rattle.sheet.specs.declared.LineKind.TheVariants as kind
use Rattle.sheet.specs.Sheet.{Sheet, names, is_valid}
use Rattle.sheet.specs.Reading.{State, Answer, kept, refused, place_behind, is_known, moved, stopped, feature_word, valid_word, start_word, move_word, stop_word, edition_word, fts_line, feature_line, valid_line, start_line, guarded_move, move_line, stop_line, kind_in, by_kind, by_word, read_line, none, ended, read_lines, nothing, last, read_sheet}
use Rattle.sheet.specs.Numbered.{MovesTo, StopsTo, LinesTo}
use Rattle.sheet.proofs.Accepted.{Tells, keeps, refuses, told_kept, told_refused, told_if, told_number, told_outcome, told_on}

-- an answer that is refused at a line of at most b, or kept with the property P
abbrev Numbered : {A : Type 0} → (A → Type 0) → ℕ → Answer A → Type 0
Numbered P b a = Tells (λ q. q.line ≤ b) P a

-- ---- one line, and the end

-- the lines so far have numbers of at most b
record StateTo (b : ℕ) (st : State) : Type 0 where
  valid : st.valid_line ≤ b
  moves : MovesTo b st.sheet.moves
  stops : StopsTo b st.sheet.stops

module _ (b n : ℕ) (h : n ≤ b) (st : State) (old : StateTo b st) where
  fts_numbered : (x : One) → Numbered (StateTo b) b (fts_line n st x)
  unfolding fts_line
  fts_numbered not_one = refuses h
  fts_numbered (only x) = told_if (refusal because.BadLine n 0) (not (same_bytes x edition_word)) h (λ t. keeps (record { valid = old.valid; moves = old.moves; stops = old.stops }))

  feature_numbered : (at : ℕ) (x : One) → Numbered (StateTo b) b (feature_line n at st x)
  unfolding feature_line
  feature_numbered at not_one = refuses h
  feature_numbered at (only x) =
      told_if (refusal because.TooManyLines n 0) (leb 10 (length st.sheet.features)) h
      (λ few. told_if (refusal because.BadField n (place_behind (feature_word ∷ []))) (not (is_name x)) h
      (λ good. told_if (refusal because.Repeat n (place_behind (feature_word ∷ []))) (is_known (number (names st.sheet.features) x)) h
      (λ new. keeps (record { valid = old.valid; moves = old.moves; stops = old.stops }))))

  valid_numbered : (x : One) → Numbered (StateTo b) b (valid_line n st x)
  unfolding valid_line
  valid_numbered not_one = refuses h
  valid_numbered (only x) = told_outcome n (place_behind (valid_word ∷ [])) (names st.sheet.features) x (λ e from f. h) (λ g rest f. keeps (record { valid = h; moves = old.moves; stops = old.stops }))

  start_numbered : (x : One) → Numbered (StateTo b) b (start_line n st x)
  unfolding start_line
  start_numbered not_one = refuses h
  start_numbered (only x) = told_number n (place_behind (start_word ∷ [])) x (λ e. h) (λ q e. keeps (record { valid = old.valid; moves = old.moves; stops = old.stops }))

  move_numbered : (at : ℕ) (x : Four) → Numbered (StateTo b) b (move_line n at st x)
  unfolding move_line guarded_move
  move_numbered at not_four = refuses h
  move_numbered at (four f a t g) =
      told_if (refusal because.TooManyLines n 0) (leb 256 (length st.sheet.moves)) h
      (λ few. told_number n (place_behind (move_word ∷ [])) f (λ e. h)
      (λ from e. told_if (refusal because.BadField n (place_behind (move_word ∷ f ∷ []))) (not (is_action a)) h
      (λ act. told_number n (place_behind (move_word ∷ f ∷ a ∷ [])) t (λ e. h)
      (λ to e. told_outcome n (place_behind (move_word ∷ f ∷ a ∷ t ∷ [])) (names st.sheet.features) g (λ e from q. h)
      (λ guard rest q. told_if (refusal because.Repeat n (place_behind (move_word ∷ []))) (moved from a to st.sheet.moves) h
      (λ new. keeps (record { valid = old.valid; moves = (h, old.moves); stops = old.stops })))))))

  stop_numbered : (x : Two) → Numbered (StateTo b) b (stop_line n st x)
  unfolding stop_line
  stop_numbered not_two = refuses h
  stop_numbered (two q g) =
      told_number n (place_behind (stop_word ∷ [])) q (λ e. h)
      (λ state e. told_outcome n (place_behind (stop_word ∷ q ∷ [])) (names st.sheet.features) g (λ e from f. h)
      (λ guard rest f. told_if (refusal because.Repeat n (place_behind (stop_word ∷ []))) (stopped state st.sheet.stops) h
      (λ new. keeps (record { valid = old.valid; moves = old.moves; stops = (h, old.stops) }))))

  kind_numbered : (at : ℕ) (fs : List (List ℕ)) (k : LineKind) → Numbered (StateTo b) b (by_kind k n at st fs)
  kind_numbered at fs kind.Fts = fts_numbered (as_one fs)
  kind_numbered at fs kind.Feature = feature_numbered at (as_one fs)
  kind_numbered at fs kind.Valid = valid_numbered (as_one fs)
  kind_numbered at fs kind.Start = start_numbered (as_one fs)
  kind_numbered at fs kind.Move = move_numbered at (as_four fs)
  kind_numbered at fs kind.Stop = stop_numbered (as_two fs)
  kind_numbered at fs kind.Misplaced = refuses h

  word_numbered : (at : ℕ) (fs : List (List ℕ)) → Numbered (StateTo b) b (by_word n at st fs)
  word_numbered at [] = refuses h
  word_numbered at (w ∷ fs) = kind_numbered (at + length w + 1) fs (kind_in st.section w)

  ended_numbered : Numbered (LinesTo b) b (ended n st)
  unfolding ended
  ended_numbered =
      told_if (refusal because.BadLine n 0) (ltb st.section 3) h
      (λ t. told_if (refusal because.NoValidProduct st.valid_line 0) (none (is_valid st.sheet) (2 ^ length st.sheet.features)) old.valid
      (λ found. keeps (record { moves = old.moves; stops = old.stops })))

-- ---- all lines

lines_numbered : (b : ℕ) (ls : List (List ℕ)) (n at : ℕ) (st : State) → n + length ls ≤ b → StateTo b st → Numbered (LinesTo b) b (read_lines n at st ls)
unfolding read_lines read_line
lines_numbered b [] n at st h old = ended_numbered b n (omega (arith, h)) st old
lines_numbered b (l ∷ ls) n at st h old =
    told_on (word_numbered b n (omega (arith, h)) st old at (fields l)) (λ u. lines_numbered b ls (n + 1) (at + length l + 1) u (omega (arith, h)))

-- a byte begins one line at most, so there are no more lines than bytes
onto_few : (t : Bool) (b : ℕ) (ls : List (List ℕ)) → length (onto t b ls) ≤ suc (length ls)
onto_few true b ls = omega arith
onto_few false b [] = omega arith
onto_few false b (l ∷ ls) = omega arith

lines_few : (s : List ℕ) → length (lines s) ≤ length s
unfolding cut
lines_few [] = omega arith
lines_few (b ∷ s) = omega (arith, onto_few (eqb b 10) b (lines s), lines_few s)

sheet_numbered : (s : List ℕ) → Numbered (LinesTo 65537) 65537 (read_sheet s)
unfolding read_sheet
sheet_numbered s =
    told_if (refusal because.SheetTooLong 0 0) (ltb 65536 (length s)) (omega arith)
    (λ few. told_if (refusal because.NoLastLineEnd 0 0) (not (eqb (last 0 s) 10)) (omega arith)
    (λ ends. lines_numbered 65537 (lines s) 1 0 nothing (omega (arith, lines_few s, ltb-false 65536 (length s) few))
    (record { valid = omega arith; moves = tt; stops = tt })))

-- a refusal's line
pub refused_line : (s : List ℕ) {q : Refusal} → read_sheet s ≡ refused q → q.line ≤ 65537
refused_line s e = told_refused (sheet_numbered s) e

-- the lines of an accepted sheet
pub kept_lines : (s : List ℕ) {r : Sheet} → read_sheet s ≡ kept r → LinesTo 65537 r
kept_lines s e = told_kept (sheet_numbered s) e
