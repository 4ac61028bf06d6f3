-- The loop over the moves' rows: one law for each answer of a row, and one for each turn. Assumes nothing.
use mathlib.Core.Bool.{Bool, true, false, not}
use mathlib.Core.List.{List}
use mathlib.Core.Logic.{◌⊎◌, ⊎_elim, inl, inr}
use mathlib.Core.Path.{◌≡◌, sym, ap, ◌∙◌}
use Prim.Native.Nat.{ℕ, ◌+◌, ◌<◌, ◌≤◌, max}
use native.Mathlib.Decide.{ℕ_discrete}
use native.Mathlib.Nat.{eq-or-lt_of_le}
use native.Mathlib.Omega.{arith}
use borrow.Author.Tests.{not-true, not-false, eq-eqb, ne_eqb, eqb-true, eqb-false}
use lib.Dec.{eqb}
use lib.ListN.{get_or}
use Rattle.products.specs.Sets.{bit, one_if, In}
use Rattle.products.proofs.Bits.{zero_bit}
use Rattle.fields.specs.Bytes.{piece_of, same_bytes}
use Rattle.fields.proofs.Same.{same_true, same_false}
use Rattle.running.specs.declared.RunningBox.{RunningBox}
use Rattle.running.specs.Inside.{RowLeads, Added, Gathered}

-- what a test of P tells by its answer
abbrev pub Tells : Bool → Type 0 → Type 0
Tells x P = (x ≡ true → P) × (x ≡ false → P → ⊥)

-- ---- one state more, or none

-- what `states::with_state` promises
pub added_state : {w state r : ℕ} → ((q : ℕ) → q < 64 → bit r q ≡ max (bit w q) (one_if (eqb state q))) → Added w (λ q. state ≡ q) r
added_state {w} {state} {r} is =
    record {
      only = λ q l e. at q l e (ℕ_discrete state q);
      kept = λ q l e. let le : one_if (eqb state q) ≤ 1 = one_le (eqb state q) in omega (arith, is q l);
      every = λ q l e. omega (arith, is q l, ap one_if (eq-eqb state q e));
    }
  where
    one_le : (b : Bool) → one_if b ≤ 1
    one_le true = omega arith
    one_le false = omega arith

    at : (q : ℕ) → q < 64 → bit r q ≡ 1 → Dec (state ≡ q) → (bit w q ≡ 1) ⊎ (state ≡ q)
    at q l e (yes d) = inr d
    at q l e (no n) = inl (omega (arith, is q l, ap one_if (ne_eqb state q n)))

-- nothing is added where nothing has the property
added_same : {w : ℕ} {P : ℕ → Type 0} → ((q : ℕ) → P q → ⊥) → Added w P w
added_same f = record { only = λ q l e. inl e; kept = λ q l e. e; every = λ q l x. absurd (f q x) }

-- ---- a row

module _ {s row guard : List ℕ} {b : RunningBox} {name : List ℕ} {w : ℕ} where
  pub row_elsewhere : {x : Bool} → x ≡ eqb (bit b.place (get_or row 1 0)) 1 → not x ≡ true → Added w (RowLeads s row guard b name) w
  row_elsewhere {x} t e = added_same (λ q l. eqb-false (bit b.place (get_or row 1 0)) 1 (sym t ∙ not-true x e) l.from)

  pub row_unmade : {x : Bool} → Tells x (In guard b.product) → not x ≡ true → Added w (RowLeads s row guard b name) w
  row_unmade {x} t e = added_same (λ q l. t.1 (not-true x e) l.makes)

  pub row_other : {x : Bool} {y : List ℕ} → y ≡ piece_of s (get_or row 2 0) (get_or row 3 0) → x ≡ same_bytes y name → not x ≡ true → Added w (RowLeads s row guard b name) w
  row_other {x} {y} p t e = added_same (λ q l. same_false y name (sym t ∙ not-true x e) (p ∙ l.named))

  pub row_leads : {x y z : Bool} {l : List ℕ} {r : ℕ} → x ≡ eqb (bit b.place (get_or row 1 0)) 1 → not x ≡ false
      → Tells y (In guard b.product) → not y ≡ false
      → l ≡ piece_of s (get_or row 2 0) (get_or row 3 0) → z ≡ same_bytes l name → not z ≡ false
      → ((q : ℕ) → q < 64 → bit r q ≡ max (bit w q) (one_if (eqb (get_or row 4 0) q))) → Added w (RowLeads s row guard b name) r
  row_leads {x} {y} {z} {l} {r} t e u f p v g is =
      let a : Added w (λ q. get_or row 4 0 ≡ q) r = added_state is in
      let leads : (q : ℕ) → get_or row 4 0 ≡ q → RowLeads s row guard b name q = λ q to.
      record {
        from = eqb-true (bit b.place (get_or row 1 0)) 1 (sym t ∙ not-false x e);
        makes = u.0 (not-false y f);
        named = sym p ∙ same_true l name (sym v ∙ not-false z g);
        to = to;
      } in
      record {
        only = λ q lq h. ⊎_elim (λ (k : bit w q ≡ 1). inl k) (λ (k : get_or row 4 0 ≡ q). inr (leads q k)) (a.only q lq h);
        kept = a.kept;
        every = λ q lq k. a.every q lq k.to;
      }

-- ---- the loop

pub gathered_none : {P : ℕ → ℕ → Type 0} → Gathered P 0 0
gathered_none = record { only = λ q l e. absurd (omega (arith, zero_bit q)); every = λ j q lj lq x. absurd (omega arith) }

pub gathered_more : {P : ℕ → ℕ → Type 0} {i w r : ℕ} → Gathered P i w → Added w (P i) r → Gathered P (i + 1) r
gathered_more {P} {i} {w} {r} g a = record { only = only; every = every }
  where
    only : (q : ℕ) → q < 64 → bit r q ≡ 1 → (j : ℕ) × (j < i + 1) × P j q
    only q l e = ⊎_elim (λ (k : bit w q ≡ 1). let z = g.only q l k in (z.0, omega (arith, z.1), z.2)) (λ (k : P i q). (i, omega arith, k)) (a.only q l e)

    every : (j q : ℕ) → j < i + 1 → q < 64 → P j q → bit r q ≡ 1
    every j q lj lq x =
        ⊎_elim (λ (e : j ≡ i). a.every q lq (rw e at x)) (λ (l : j < i). a.kept q lq (g.every j q l lq x)) (eq-or-lt_of_le {n = j} {m = i} (omega arith))

pub gathered_all : {P : ℕ → ℕ → Type 0} {i k w : ℕ} → Gathered P i w → i ≡ k → Gathered P k w
gathered_all g e = rw e at g
