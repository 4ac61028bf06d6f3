-- What `has`, `is_empty`, `is_full`, `meets` and `exceeds` promise determines their answers. Assumes nothing.
use Rattle.std.proofs.Common.{◌≡◌, Bool, true, false, List, ℕ, arith}
use Rattle.products.specs.Sets.{In, Full, Lacks}
use Rattle.products.proofs.Determined.{told_determined}

-- of `has`
pub has_determined : (s : List ℕ) (p : ℕ) (r r' : Bool) → (r ≡ true → In s p) × (r ≡ false → In s p → ⊥) → (r' ≡ true → In s p) × (r' ≡ false → In s p → ⊥) → r ≡ r'
has_determined s p = told_determined (λ i none. none i)

-- of `is_empty`
pub empty_determined : (s : List ℕ) (r r' : Bool) → (r ≡ true → (q : ℕ) → In s q → ⊥) × (r ≡ false → (q : ℕ) × In s q)
    → (r' ≡ true → (q : ℕ) → In s q → ⊥) × (r' ≡ false → (q : ℕ) × In s q) → r ≡ r'
empty_determined s = told_determined (λ none some. none some.0 some.1)

-- of `is_full`
pub full_determined : (s : List ℕ) (r r' : Bool) → (r ≡ true → Full s) × (r ≡ false → Lacks s) → (r' ≡ true → Full s) × (r' ≡ false → Lacks s) → r ≡ r'
full_determined s = told_determined (λ full (p, l, e). omega (arith, full p l))

-- of `meets` and `exceeds`, and of any other answer whether some product has a property P
pub some_determined : (P : ℕ → Type 0) (r r' : Bool) → (r ≡ true → (q : ℕ) × P q) × (r ≡ false → (q : ℕ) → P q → ⊥)
    → (r' ≡ true → (q : ℕ) × P q) × (r' ≡ false → (q : ℕ) → P q → ⊥) → r ≡ r'
some_determined P = told_determined (λ some none. none some.0 some.1)
