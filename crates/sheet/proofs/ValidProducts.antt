-- Which products of a sheet pass a test, in the manner of `ended`: it counts down through the products of the features and finds one that passes
-- or none. A valid product is below that count by its own meaning. Assumes nothing.
use Rattle.std.proofs.Common.{◌≡◌, refl, sym, ap, ◌∙◌, Bool, true, false, not, ◌&&◌, ⊎_elim, ℕ, zero, suc, ◌^◌, ◌<◌, eq-or-lt_of_le, arith, ltb, length}
use mathlib.Core.Bool.{and-false, and-eq-true_iff, false≢true}
use borrow.Author.Tests.{ltb-true}
use Rattle.guards.specs.Guard.{holds}
use Rattle.sheet.specs.Sheet.{Sheet, is_valid}
use Rattle.sheet.specs.Reading.{none}

module _ (t : ℕ → Bool) where
  pub none_true : (n : ℕ) → ((p : ℕ) → p < n → t p ≡ false) → none t n ≡ true
  unfolding none
  none_true zero f = refl
  none_true (suc n) f = rw (f n (omega arith), none_true n (λ p h. f p (omega arith)))

  none_false : (n p : ℕ) → p < n → t p ≡ true → none t n ≡ false
  unfolding none
  none_false zero p h e = absurd (omega arith)
  none_false (suc n) p h e =
      ⊎_elim (λ (q : p ≡ n). let z : t n ≡ true = ap t (sym q) ∙ e in rw z) (λ (l : p < n). rw (none_false n p l e) (and-false (not (t n))))
      (eq-or-lt_of_le (omega arith))

  pub some : (n : ℕ) → none t n ≡ false → (p : ℕ) × (t p ≡ true)
  unfolding none
  some zero e = absurd (false≢true (sym e))
  some (suc n) e = go (t n) refl e (some n)
    where
      go : (b : Bool) → t n ≡ b → (not b && none t n) ≡ false → (none t n ≡ false → (p : ℕ) × (t p ≡ true)) → (p : ℕ) × (t p ≡ true)
      go true h q below = (n, h)
      go false h q below = below q

module _ (r : Sheet) (p : ℕ) (e : is_valid r p ≡ true) where
  pub valid_both : (p < 2 ^ length r.features) × (holds r.valid p ≡ true)
  valid_both =
      let k = (and-eq-true_iff (ltb p (2 ^ length r.features)) (holds r.valid p)).0 e in
      (ltb-true p (2 ^ length r.features) k.0, k.1)

  pub valid_found : none (is_valid r) (2 ^ length r.features) ≡ false
  valid_found = none_false (is_valid r) (2 ^ length r.features) p valid_both.0 e
