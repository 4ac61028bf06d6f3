-- Each promise determines the answer: two answers that meet it are equal. The promise of `count` is an equation, and needs no law. Assumes nothing.
use Rattle.std.proofs.Common.{Option, Some, None}
use mathlib.Core.Path.{◌≡◌, refl, sym, ap, ◌∙◌}
use mathlib.Core.Bool.{Bool, true, false}
use mathlib.Core.List.{List}
use Prim.Native.Nat.{ℕ, ◌<◌}
use Rattle.products.specs.Sets.{has, Least, Finds, Words}
use Rattle.products.proofs.Laws.{same_members}
use Rattle.products.proofs.Ordered.{Ordered}

-- of every function that answers a set: both, either, without, choice, lay_feature, all
pub members_determine : (f : ℕ → ℕ) (r r' : List ℕ) → Words r → Words r' → ((p : ℕ) → p < 1024 → has r p ≡ f p) → ((p : ℕ) → p < 1024 → has r' p ≡ f p) → r ≡ r'
members_determine f r r' w w' h h' = same_members w w' (λ p lp. h p lp ∙ sym (h' p lp))

-- of a search for the first product with a property P, in an order in which no two products stand before each other
module _ {R : ℕ → ℕ → Type 0} (o : Ordered R) where
  pub least_determined : {P : ℕ → Type 0} {p q : ℕ} → Least R P p → Least R P q → p ≡ q
  least_determined {p = p} {q = q} h k = o p q (h.first q k.is) (k.first p h.is)

  pub found_determined : (P : ℕ → Type 0) (f g : Option ℕ) → Finds R P f → Finds R P g → f ≡ g
  found_determined P (Some p) (Some q) h k = ap Some (least_determined h k)
  found_determined P (Some p) None h k = absurd (k p h.is)
  found_determined P None (Some q) h k = absurd (h q k.is)
  found_determined P None None h k = refl

-- an answer of two, where what the one says excludes what the other says
pub told_determined : {A B : Type 0} → (A → B → ⊥) → (r r' : Bool) → (r ≡ true → A) × (r ≡ false → B) → (r' ≡ true → A) × (r' ≡ false → B) → r ≡ r'
told_determined x true true h h' = refl
told_determined x true false h h' = absurd (x (h.0 refl) (h'.1 refl))
told_determined x false true h h' = absurd (x (h'.0 refl) (h.1 refl))
told_determined x false false h h' = refl

-- of `same`
pub same_determined : (a b : List ℕ) (r r' : Bool) → (r ≡ true → a ≡ b) × (r ≡ false → a ≡ b → ⊥) → (r' ≡ true → a ≡ b) × (r' ≡ false → a ≡ b → ⊥) → r ≡ r'
same_determined a b = told_determined (λ e ne. ne e)
