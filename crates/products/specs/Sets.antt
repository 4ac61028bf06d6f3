-- Sets of products: which products a set has, how many, and which comes first in an order. A set is sixteen words; how the words hold it is said
-- once, in `has`, and everything else speaks of members. Assumes nothing: these are definitions.
use Rattle.std.specs.Prelude.{◌≡◌, Bool, true, false, List, ℕ, zero, suc, ◌+◌, ◌/◌, ◌%◌, ◌^◌, ◌<◌, get_or, length, Option, Some, None}

-- bit k of x, 0 or 1; of a product: 1 exactly if it has feature k ("the sum of 2^i for each feature it has")
abbrev pub bit : ℕ → ℕ → ℕ
bit x k = x / 2 ^ k % 2

-- 1 where the set s has product p, and 0 where not: product p is bit p % 64 of word p / 64
unfoldable pub has : List ℕ → ℕ → ℕ
has s p = bit (get_or s (p / 64) 0) (p % 64)

-- 1 for true, 0 for false
abbrev pub one_if : Bool → ℕ
one_if true = 1
one_if false = 0

-- p is a member of s
pub record In (s : List ℕ) (p : ℕ) : Type 0 where
  pub small : p < 1024
  pub is : has s p ≡ 1

-- a has p, and of b it is said by y: 1 if b has p, 0 if not
pub record Picked (y : ℕ) (a b : List ℕ) (p : ℕ) : Type 0 where
  pub first : In a p
  pub second : has b p ≡ y

-- a and b have p; a has p and b has not
abbrev pub InBoth : List ℕ → List ℕ → ℕ → Type 0
InBoth = Picked 1

abbrev pub InOnly : List ℕ → List ℕ → ℕ → Type 0
InOnly = Picked 0

-- p has the property P, and stands in the order R before every product that has it
pub record Least (R : ℕ → ℕ → Type 0) (P : ℕ → Type 0) (p : ℕ) : Type 0 where
  pub is : P p
  pub first : (q : ℕ) → P q → R p q

-- the first product with the property P, or that there is none
abbrev pub Finds : (ℕ → ℕ → Type 0) → (ℕ → Type 0) → Option ℕ → Type 0
Finds R P (Some p) = Least R P p
Finds R P None = (q : ℕ) → P q → ⊥

-- s has all 1,024 products of ten features; s lacks one of them
abbrev pub Full : List ℕ → Type 0
Full s = (p : ℕ) → p < 1024 → has s p ≡ 1

abbrev pub Lacks : List ℕ → Type 0
Lacks s = (p : ℕ) × (p < 1024) × (has s p ≡ 0)

-- how many products below n the set s has
unfoldable pub count_to : List ℕ → ℕ → ℕ
count_to s zero = 0
count_to s (suc n) = count_to s n + has s n

-- what every value of type [u64; 16] is: sixteen words of 64 bits
pub record Words (s : List ℕ) : Type 0 where
  pub long : length s ≡ 16
  pub word : (k : ℕ) → get_or s k 0 < 2 ^ 64
