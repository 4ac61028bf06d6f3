-- A move line has at least 13 bytes and a stop line at least 9, the line end counted: so the lines so far have at least 13 bytes for each move
-- and 9 for each stop. Assumes nothing.
use Rattle.std.proofs.Common.{◌≡◌, refl, ap, Bool, true, false, not, List, [], ◌∷◌, ℕ, suc, ◌+◌, ◌*◌, ◌≤◌, arith, eqb, leb, length}
use borrow.Author.Tests.{not-false}
use Rattle.refusals.specs.declared.Reason.TheVariants as because
use Rattle.refusals.specs.Refusal.{refusal}
use Rattle.fields.specs.Bytes.{same_bytes, is_name, is_action, read_state}
use Rattle.fields.specs.Cutting.{onto, cut, fields, One, only, not_one, as_one, as_two, as_four}
use Rattle.values.proofs.Names.{action_names}
use Rattle.guards.specs.Guard.{Guard}
use Rattle.guards.specs.Reading.{number, read_guard, read_whole}
use Rattle.sheet.specs.Sheet.{Feature, Sheet, names}
use Rattle.sheet.specs.Reading.{State, Answer, kept, place_behind, stated, guarded, is_known, moved, stopped, feature_word, valid_word, start_word, move_word, stop_word, edition_word, fts_line, feature_line, valid_line, start_line, guarded_move, move_line, stop_line, kind_in, by_kind, by_word, read_line}
use Rattle.sheet.proofs.LineKinds.{by_kind_lem}
use Rattle.sheet.proofs.Accepted.{Told, keeps, refuses, told_kept, told_if, told_state, told_guard}

-- ---- the fields of a line, each with the tab or the line end behind it, have the bytes of the line

abbrev size : List (List ℕ) → ℕ
size [] = 0
size (f ∷ fs) = suc (length f + size fs)

onto_size : (t : Bool) (b : ℕ) (fs : List (List ℕ)) → 1 ≤ size fs → size (onto t b fs) ≡ suc (size fs)
onto_size true b fs h = omega arith
onto_size false b [] h = absurd (omega arith)
onto_size false b (f ∷ fs) h = omega arith

fields_size : (l : List ℕ) → size (fields l) ≡ length l + 1
unfolding cut
fields_size [] = refl
fields_size (b ∷ l) = let y = fields_size l in omega (arith, onto_size (eqb b 9) b (fields l) (omega arith))

-- ---- a state and a guard have a byte at least

module _ {P : State → Type 0} where
  some_state : {k : ℕ → Answer State} (n p : ℕ) (x : List ℕ) → ((q : ℕ) → 1 ≤ length x → Told P (k q)) → Told P (stated n p (read_state x) k)
  unfolding read_state
  some_state n p [] f = refuses refl
  some_state n p (b ∷ x) f = told_state n p (b ∷ x) (λ q small text. f q (omega arith))

  some_guard : {k : Guard → Answer State} (n p : ℕ) (fs : List Feature) (x : List ℕ) → ((g : Guard) → 1 ≤ length x → Told P (k g))
      → Told P (guarded n p x (read_whole (names fs) x) k)
  unfolding read_whole read_guard
  some_guard n p fs [] f = refuses refl
  some_guard n p fs (b ∷ x) f = told_guard n p fs (b ∷ x) (λ g good text. f g (omega arith))

-- ---- what the moves and stops weigh

abbrev weight : Sheet → ℕ
weight s = length s.moves * 13 + length s.stops * 9

pub record Weighs (most : ℕ) (st : State) : Type 0 where
  pub is : weight st.sheet ≤ most

module _ (n at : ℕ) (st : State) (k : ℕ) where
  fts_weighs : (x : One) → Told (Weighs (weight st.sheet + k)) (fts_line n st x)
  unfolding fts_line
  fts_weighs not_one = refuses refl
  fts_weighs (only x) = told_if (refusal because.BadLine n 0) (not (same_bytes x edition_word)) refl (λ t. keeps (record { is = omega arith }))

  feature_weighs : (x : One) → Told (Weighs (weight st.sheet + k)) (feature_line n at st x)
  unfolding feature_line
  feature_weighs not_one = refuses refl
  feature_weighs (only x) =
      told_if (refusal because.TooManyLines n 0) (leb 10 (length st.sheet.features)) refl
      (λ few. told_if (refusal because.BadField n (place_behind (feature_word ∷ []))) (not (is_name x)) refl
      (λ good. told_if (refusal because.Repeat n (place_behind (feature_word ∷ []))) (is_known (number (names st.sheet.features) x)) refl (λ new. keeps (record { is = omega arith }))))

  valid_weighs : (x : One) → Told (Weighs (weight st.sheet + k)) (valid_line n st x)
  unfolding valid_line
  valid_weighs not_one = refuses refl
  valid_weighs (only x) = told_guard n (place_behind (valid_word ∷ [])) st.sheet.features x (λ g good text. keeps (record { is = omega arith }))

  start_weighs : (x : One) → Told (Weighs (weight st.sheet + k)) (start_line n st x)
  unfolding start_line
  start_weighs not_one = refuses refl
  start_weighs (only x) = told_state n (place_behind (start_word ∷ [])) x (λ q small text. keeps (record { is = omega arith }))

  move_weighs : (fs : List (List ℕ)) → 5 + size fs ≤ k → Told (Weighs (weight st.sheet + k)) (move_line n at st (as_four fs))
  unfolding move_line guarded_move
  move_weighs [] h = refuses refl
  move_weighs (f ∷ []) h = refuses refl
  move_weighs (f ∷ a ∷ []) h = refuses refl
  move_weighs (f ∷ a ∷ t ∷ []) h = refuses refl
  move_weighs (f ∷ a ∷ t ∷ g ∷ []) h =
      told_if (refusal because.TooManyLines n 0) (leb 256 (length st.sheet.moves)) refl
      (λ few. some_state n (place_behind (move_word ∷ [])) f
      (λ from lf. told_if (refusal because.BadField n (place_behind (move_word ∷ f ∷ []))) (not (is_action a)) refl
      (λ act. let la = (action_names a (not-false (is_action a) act)).1 in some_state n (place_behind (move_word ∷ f ∷ a ∷ [])) t
      (λ to lt. some_guard n (place_behind (move_word ∷ f ∷ a ∷ t ∷ [])) st.sheet.features g
      (λ guard lg. told_if (refusal because.Repeat n (place_behind (move_word ∷ []))) (moved from a to st.sheet.moves) refl (λ new. keeps (record { is = omega arith })))))))
  move_weighs (f ∷ a ∷ t ∷ g ∷ x ∷ fs) h = refuses refl

  stop_weighs : (fs : List (List ℕ)) → 5 + size fs ≤ k → Told (Weighs (weight st.sheet + k)) (stop_line n st (as_two fs))
  unfolding stop_line
  stop_weighs [] h = refuses refl
  stop_weighs (q ∷ []) h = refuses refl
  stop_weighs (q ∷ g ∷ []) h =
      some_state n (place_behind (stop_word ∷ [])) q
      (λ state lq. some_guard n (place_behind (stop_word ∷ q ∷ [])) st.sheet.features g
      (λ guard lg. told_if (refusal because.Repeat n (place_behind (stop_word ∷ []))) (stopped state st.sheet.stops) refl (λ new. keeps (record { is = omega arith }))))
  stop_weighs (q ∷ g ∷ x ∷ fs) h = refuses refl

  kind_weighs : (w : List ℕ) (fs : List (List ℕ)) → suc (length w + size fs) ≤ k → Told (Weighs (weight st.sheet + k)) (by_kind (kind_in st.section w) n at st fs)
  kind_weighs w fs h =
      by_kind_lem st.section w (λ k'. Told (Weighs (weight st.sheet + k)) (by_kind k' n at st fs)) (λ e x. fts_weighs (as_one fs))
      (λ e x. feature_weighs (as_one fs)) (λ e x. valid_weighs (as_one fs)) (λ e x. start_weighs (as_one fs))
      (λ e x. stop_weighs fs (omega (arith, ap length x))) (λ e x. move_weighs fs (omega (arith, ap length x))) (refuses refl)

word_weighs : (n at : ℕ) (st : State) (k : ℕ) (fs : List (List ℕ)) → size fs ≤ k → Told (Weighs (weight st.sheet + k)) (by_word n at st fs)
word_weighs n at st k [] h = refuses refl
word_weighs n at st k (w ∷ fs) h = kind_weighs n (at + length w + 1) st k w fs h

-- a line adds no more than its bytes and its end
pub line_weighs : (n at : ℕ) (st : State) (l : List ℕ) {u : State} → read_line n at st l ≡ kept u
    → length u.sheet.moves * 13 + length u.sheet.stops * 9 ≤ length st.sheet.moves * 13 + length st.sheet.stops * 9 + (length l + 1)
unfolding read_line
line_weighs n at st l e = (told_kept (word_weighs n at st (length l + 1) (fields l) (omega (arith, fields_size l))) e).is
