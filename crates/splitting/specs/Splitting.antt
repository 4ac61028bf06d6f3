-- "A set of products is written so": the guard of a set. A set is a question about products here, and nothing is said of how it is carried.
-- Assumes nothing: these are definitions.
use Rattle.std.specs.Prelude.{Bool, true, false, cond, not, ◌&&◌, List, ◌≡◌, ℕ, zero, suc, ◌+◌, ◌*◌, ◌^◌, ◌<◌, eqb}
use Rattle.products.specs.Sets.{has}
use Rattle.guards.specs.Guard.{Guard, never, always, feature, choice, holds}

-- whether the set has a product
abbrev pub in_set : List ℕ → ℕ → Bool
in_set s p = eqb (has s p) 1

-- "A for the products with f and B for those without": of the features left, f is the first, and the others make the number q
abbrev pub with : (ℕ → Bool) → ℕ → Bool
with f q = f (2 * q + 1)

abbrev pub without : (ℕ → Bool) → ℕ → Bool
without f q = f (2 * q)

abbrev pub alike : Bool → Bool → Bool
alike true b = b
alike false b = not b

-- the question is answered by yes for every number below n
unfoldable pub all : (ℕ → Bool) → ℕ → Bool
all t zero = true
all t (suc n) = all t n && t n

-- the set does not depend on the first of the features left, behind which k more are left
abbrev pub free : (ℕ → Bool) → ℕ → Bool
free f k = all (λ q. alike (with f q) (without f q)) (2 ^ k)

-- "the empty set `0`, the full set `1`, otherwise the writer splits on the first feature on which the set depends and writes `(f?A:B)` .. by the
-- same rule over the later features": k features are left, the first of them number i
unfoldable pub guard_of : ℕ → ℕ → (ℕ → Bool) → Guard
guard_of i zero f = cond (f 0) always never
guard_of i (suc k) f = cond (free f k) (guard_of (suc i) k (without f)) (choice (feature i) (guard_of (suc i) k (with f)) (guard_of (suc i) k (without f)))

-- g is the guard as which the set of the products below 2 ^ n with the property P is written
pub record Writes (n : ℕ) (P : ℕ → Type 0) (g : Guard) : Type 0 where
  pub form : guard_of 0 n (holds g) ≡ g
  pub only : (p : ℕ) → p < 2 ^ n → holds g p ≡ true → P p
  pub every : (p : ℕ) → p < 2 ^ n → P p → holds g p ≡ true
