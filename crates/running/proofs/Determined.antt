-- The box's promises determine answer and box: any two that meet one are equal. Assumes nothing.
use Rattle.std.proofs.Common.{Result, Ok, Err}
use mathlib.Core.Bool.{true, false}
use mathlib.Core.List.{List}
use mathlib.Core.Logic.{◌⊎◌, inl, inr}
use mathlib.Core.Path.{◌≡◌, refl, sym, ap, ap₂, ◌∙◌}
use Prim.Native.Nat.{ℕ}
use native.Mathlib.Decide.{ℕ_discrete}
use native.Mathlib.Omega.{arith}
use Rattle.products.specs.Sets.{bit}
use Rattle.states.proofs.Laws.{same_states}
use Rattle.refusals.specs.declared.Refusal.{Refusal}
use Rattle.sheet.specs.Sheet.{Sheet, is_valid}
use Rattle.sheet.specs.Reading.{kept, read_sheet}
use Rattle.sheet.proofs.Accepted.{kept_refused}
use Rattle.running.specs.declared.RunningBox.{RunningBox}
use Rattle.running.specs.Ways.{Stands}
use Rattle.running.specs.Promise.{NotValid, NoMove, Refuses, Begun, SetsUp, Went, Acts}

-- ---- a place is told by its states

module _ {b d : RunningBox} {P : ℕ → Type 0} where
  same_place : Stands b P → Stands d P → b.place ≡ d.place
  same_place i j = same_states b.place d.place (λ q. at q (ℕ_discrete (bit b.place q) 1) (ℕ_discrete (bit d.place q) 1))
    where
      at : (q : ℕ) → Dec (bit b.place q ≡ 1) → Dec (bit d.place q ≡ 1) → bit b.place q ≡ bit d.place q
      at q (yes x) (yes y) = x ∙ sym y
      at q (yes x) (no y) = absurd (y (j.every q (i.only q (record { is = x }))).is)
      at q (no x) (yes y) = absurd (x (i.every q (j.only q (record { is = y }))).is)
      at q (no x) (no y) = omega arith

  pub same_box : b.product ≡ d.product → Stands b P → Stands d P → b ≡ d
  same_box e i j = ap₂ (λ (p w : ℕ). record { product = p; place = w }) e (same_place i j)

-- ---- refusals

pub not_both : (r : Sheet) {p m : ℕ} → p ≡ m → is_valid r p ≡ true → is_valid r m ≡ false → ⊥
not_both r e v i = let z : ◌≡◌ {A = ℕ} 0 1 = cc in omega arith

module _ (s : List ℕ) where
  pub same_sheet : {r q : Sheet} → read_sheet s ≡ kept r → read_sheet s ≡ kept q → r ≡ q
  same_sheet e f = cc

  module _ (No : Sheet → Refusal → Type 0) where
    -- what an accepted sheet does not refuse is not refused
    pub not_refused : {r : Sheet} {q : Refusal} → read_sheet s ≡ kept r → ((q : Refusal) → No r q → ⊥) → Refuses No s q → ⊥
    not_refused e n (inl f) = kept_refused s e f
    not_refused {q = q} e n (inr (t, f, h)) = n q (rw (same_sheet f e) at h)

    -- and there is one refusal, if there is one for each sheet
    pub refused_once : ((r : Sheet) (p q : Refusal) → No r p → No r q → p ≡ q) → {p q : Refusal} → Refuses No s p → Refuses No s q → p ≡ q
    refused_once one (inl e) (inl f) = cc
    refused_once one (inl e) (inr (r, f, h)) = absurd (kept_refused s f e)
    refused_once one (inr (r, e, h)) (inl f) = absurd (kept_refused s e f)
    refused_once one {p} {q} (inr (r, e, h)) (inr (t, f, k)) = one r p q h (rw (same_sheet f e) at k)

  -- ---- the set-up

  module _ (p : ℕ) where
    no_begin : {r : Sheet} {b : RunningBox} → Begun r p b → (q : Refusal) → NotValid r p q → ⊥
    no_begin {r} h q n = not_both r refl h.valid n.invalid

    pub set_up_once : (a c : Result (Unit {0}) Refusal) (b d : RunningBox) → SetsUp s p a b → SetsUp s p c d → (a ≡ c) × (b ≡ d)
    set_up_once (Ok x) (Ok y) b d (r, e, g) (t, f, h) =
        let k : Begun r p d = rw (same_sheet f e) at h in
        (refl, same_box (g.product ∙ sym k.product) g.place k.place)
    set_up_once (Ok x) (Err q) b d (r, e, g) (z, h) = absurd (not_refused (λ r. NotValid r p) e (no_begin g) h)
    set_up_once (Err q) (Ok x) b d (z, h) (r, e, g) = absurd (not_refused (λ r. NotValid r p) e (no_begin g) h)
    set_up_once (Err q) (Err t) b d (y, g) (z, h) =
        (ap Err (refused_once (λ r. NotValid r p) (λ r p q x y. x.twelve ∙ sym y.twelve) g h), y ∙ sym z)

  -- ---- an action

  module _ (b : RunningBox) (name : List ℕ) where
    abbrev No : Sheet → Refusal → Type 0
    No r q = NotValid r b.product q ⊎ NoMove r b name q

    no_went : {r : Sheet} {d : RunningBox} → Went r b name d → (q : Refusal) → No r q → ⊥
    no_went {r} h q (inl n) = not_both r refl h.valid n.invalid
    no_went h q (inr n) = n.nothing h.some.0 h.some.1

    one_no : (r : Sheet) (p q : Refusal) → No r p → No r q → p ≡ q
    one_no r p q (inl x) (inl y) = x.twelve ∙ sym y.twelve
    one_no r p q (inl x) (inr y) = absurd (not_both r refl y.valid x.invalid)
    one_no r p q (inr x) (inl y) = absurd (not_both r refl x.valid y.invalid)
    one_no r p q (inr x) (inr y) = x.nineteen ∙ sym y.nineteen

    pub act_once : (a c : Result (Unit {0}) Refusal) (d f : RunningBox) → Acts s b name a d → Acts s b name c f → (a ≡ c) × (d ≡ f)
    act_once (Ok x) (Ok y) d f (r, e, g) (t, i, h) =
        let k : Went r b name f = rw (same_sheet i e) at h in
        (refl, same_box (g.product ∙ sym k.product) g.place k.place)
    act_once (Ok x) (Err q) d f (r, e, g) (z, h) = absurd (not_refused No e (no_went g) h)
    act_once (Err q) (Ok x) d f (z, h) (r, e, g) = absurd (not_refused No e (no_went g) h)
    act_once (Err q) (Err t) d f (y, g) (z, h) = (ap Err (refused_once No one_no g h), y ∙ sym z)
