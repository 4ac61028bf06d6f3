-- At most 64 stops have states below 64 of which none comes twice: the states below 64 that are stopped are as many as the stops, and they are
-- at most 64. So a stop line behind 64 others is always a repeat. Assumes nothing.
use Rattle.std.proofs.Common.{◌≡◌, refl, sym, ap, ◌∙◌, ⊎_elim, Bool, true, false, ◌||◌, List, [], ◌∷◌, ℕ, zero, suc, ◌+◌, ◌≤◌, ◌<◌, eq-or-lt_of_le, arith, length}
use borrow.Author.Tests.{eq-eqb, ne_eqb}
use Rattle.products.specs.Sets.{one_if}
use Rattle.guards.specs.Guard.{never}
use Rattle.sheet.specs.Sheet.{Stop}
use Rattle.sheet.specs.Reading.{stopped}
use Rattle.sheet.specs.Inside.{Apart}

-- how many states below n are stopped
unfoldable stopped_to : ℕ → List Stop → ℕ
stopped_to zero ds = 0
stopped_to (suc n) ds = stopped_to n ds + one_if (stopped n ds)

one_le : (t : Bool) → one_if t ≤ 1
one_le true = omega arith
one_le false = omega arith

stopped_le : (n : ℕ) (ds : List Stop) → stopped_to n ds ≤ n
unfolding stopped_to
stopped_le zero ds = omega arith
stopped_le (suc n) ds = omega (arith, stopped_le n ds, one_le (stopped n ds))

stopped_none : (n : ℕ) → stopped_to n [] ≡ 0
unfolding stopped_to stopped
stopped_none zero = refl
stopped_none (suc n) = omega (arith, stopped_none n)

-- a further stop changes nothing at another state, and all at its own
module _ (d : Stop) (ds : List Stop) where
  pub stopped_other : (q : ℕ) → (q ≡ d.state → ⊥) → stopped q (d ∷ ds) ≡ stopped q ds
  unfolding stopped
  stopped_other q h = ap (λ (t : Bool). t || stopped q ds) (ne_eqb q d.state h)

  pub stopped_here : (q : ℕ) → q ≡ d.state → stopped q (d ∷ ds) ≡ true
  unfolding stopped
  stopped_here q h = ap (λ (t : Bool). t || stopped q ds) (eq-eqb q d.state h)

  count_below : (n : ℕ) → n ≤ d.state → stopped_to n (d ∷ ds) ≡ stopped_to n ds
  unfolding stopped_to
  count_below zero h = refl
  count_below (suc n) h = omega (arith, count_below n (omega arith), ap one_if (stopped_other n (λ e. omega arith)))

  count_above : stopped d.state ds ≡ false → (n : ℕ) → d.state < n → stopped_to n (d ∷ ds) ≡ suc (stopped_to n ds)
  unfolding stopped_to
  count_above new zero h = absurd (omega arith)
  count_above new (suc n) h =
      ⊎_elim
      (λ (e : d.state ≡ n). omega (arith, count_below n (omega arith), ap one_if (stopped_here n (sym e)), ap one_if (ap (λ (q : ℕ). stopped q ds) (sym e) ∙ new)))
      (λ (l : d.state < n). omega (arith, count_above new n l, ap one_if (stopped_other n (λ e. omega arith))))
      (eq-or-lt_of_le (omega arith))

stopped_all : (ds : List Stop) → Apart ds → stopped_to 64 ds ≡ length ds
stopped_all [] a = stopped_none 64
stopped_all (d ∷ ds) a = count_above d ds a.1 64 a.0 ∙ ap suc (stopped_all ds a.2)

pub stops_few_lem : (ds : List Stop) → Apart ds → length ds ≤ 64
stops_few_lem ds a = omega (arith, stopped_all ds a, stopped_le 64 ds)

-- there is room for a new state
pub stops_fit : {q : ℕ} (ds : List Stop) → Apart ds → q < 64 → stopped q ds ≡ false → length ds < 64
stops_fit {q} ds a h new = stops_few_lem (record { line = 0; state = q; guard = never } ∷ ds) (h, new, a)
