-- A few facts that belong to no sheet: of truth values, of the members of a list, of counts. Assumes nothing.
use mathlib.Core.Bool.{Bool, true, false, not, ◌&&◌}
use mathlib.Core.List.{List, [], ◌∷◌, Memᴰ}
use mathlib.Core.Path.{◌≡◌, refl, sym, ap, subst}
use Prim.Native.Nat.{ℕ, zero, suc, ◌+◌, ◌≤◌}
use native.Mathlib.Omega.{arith}
use Rattle.products.specs.Sets.{one_if}
use Rattle.verdicts.specs.Verdicts.{Counted, passes}

pub apart : false ≡ true → ⊥
apart e = omega (arith, ap one_if e)

pub both_true : (a b : Bool) → (a && b) ≡ true → (a ≡ true) × (b ≡ true)
both_true true b e = (refl, e)
both_true false b e = absurd (apart e)

pub never_both : (b : Bool) → (b && not b) ≡ true → ⊥
never_both true e = apart e
never_both false e = apart e

-- each member of a list has the property P
abbrev pub Each : {A : Type 0} → (A → Type 0) → List A → Type 0
Each P [] = Unit {0}
Each P (x ∷ xs) = P x × Each P xs

pub each : {A : Type 0} (P : A → Type 0) {a : A} {l : List A} → Each P l → Memᴰ a l → P a
each P h (Memᴰ.head e) = subst P (sym e) h.0
each P h (Memᴰ.tail i) = each P h.1 i

-- nobody from n on: d numbers more change no count
pub counted_more : {P : ℕ → Type 0} {n k : ℕ} (d : ℕ) → ((p : ℕ) → n ≤ p → P p → ⊥) → Counted P n k → Counted P (d + n) k
counted_more {P} {n} {k} zero f c = subst (λ (m : ℕ). Counted P m k) (omega arith) c
counted_more {P} {n} {k} (suc d) f c =
    let e : suc (d + n) ≡ suc d + n = omega arith in
    subst (λ (m : ℕ). Counted P m k) e (passes (f (d + n) (omega arith)) (counted_more d f c))
