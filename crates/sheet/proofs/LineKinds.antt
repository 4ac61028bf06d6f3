-- The kind of a line: one law over all kinds. Assumes nothing.
use Rattle.std.proofs.Common.{◌≡◌, Bool, true, ◌&&◌, List, ℕ, ◌≤◌, eqb, leb, arith}
use mathlib.Core.Bool.{and-eq-true_iff}
use borrow.Author.Tests.{ne_eqb, eqb-true, le-leb, leb-true}
use Rattle.fields.specs.Bytes.{same_bytes}
use Rattle.fields.proofs.Same.{same_true}
use Rattle.guards.proofs.Names.{by_test}
use Rattle.sheet.specs.declared.LineKind.{LineKind}
use Rattle.sheet.specs.declared.LineKind.TheVariants.{Fts, Feature, Valid, Start, Move, Stop, Misplaced}
use Rattle.sheet.specs.Reading.{fts_word, feature_word, valid_word, start_word, move_word, stop_word, kind_in}

-- a stop line may come once the start line has
pub kind_stop : (n : ℕ) → 3 ≤ n → kind_in n stop_word ≡ Stop
unfolding same_bytes
kind_stop n l = rw (ne_eqb n 0 (λ e. omega arith), ne_eqb n 1 (λ e. omega arith), ne_eqb n 2 (λ e. omega arith), le-leb 3 n l)

module _ (n : ℕ) (w : List ℕ) where
  word_is : (t : Bool) (x : List ℕ) → (t && same_bytes w x) ≡ true → (t ≡ true) × (w ≡ x)
  word_is t x e = let k = (and-eq-true_iff t (same_bytes w x)).0 e in (k.0, same_true w x k.1)

  in_section : {A : Type 0} (k : ℕ) (x : List ℕ) → (n ≡ k → w ≡ x → A) → (eqb n k && same_bytes w x) ≡ true → A
  in_section k x f e = let z = word_is (eqb n k) x e in f (eqb-true n k z.0) z.1

  -- what holds of each kind, once its section has come and its word stands there, holds of the line's kind
  pub by_kind_lem : (P : LineKind → Type 0) → (n ≡ 0 → w ≡ fts_word → P Fts) → (n ≡ 1 → w ≡ feature_word → P Feature) → (n ≡ 1 → w ≡ valid_word → P Valid)
      → (n ≡ 2 → w ≡ start_word → P Start) → (3 ≤ n → w ≡ stop_word → P Stop) → (n ≡ 3 → w ≡ move_word → P Move) → P Misplaced → P (kind_in n w)
  by_kind_lem P fts feature valid start stop move misplaced =
      by_test P (eqb n 0 && same_bytes w fts_word) (in_section 0 fts_word fts)
      (λ x. by_test P (eqb n 1 && same_bytes w feature_word) (in_section 1 feature_word feature)
      (λ x. by_test P (eqb n 1 && same_bytes w valid_word) (in_section 1 valid_word valid)
      (λ x. by_test P (eqb n 2 && same_bytes w start_word) (in_section 2 start_word start)
      (λ x. by_test P (leb 3 n && same_bytes w stop_word) (λ e. let z = word_is (leb 3 n) stop_word e in stop (leb-true 3 n z.0) z.1)
      (λ x. by_test P (eqb n 3 && same_bytes w move_word) (in_section 3 move_word move) (λ x. misplaced))))))
