-- The orders in which products stand: by their features, and by their numbers. Assumes nothing: these are definitions.
use Rattle.std.specs.Prelude.{◌≡◌, ℕ, zero, suc, ◌+◌, ◌<◌, ◌≤◌}
use Rattle.products.specs.declared.Order.{Order}
use Rattle.products.specs.declared.Order.TheVariants.{Plainest, ByNumber}
use Rattle.products.specs.Sets.{bit}

-- how many of the lowest n bits of x are 1; of a product: how many of the first n features it has
unfoldable pub bits : ℕ → ℕ → ℕ
bits x zero = 0
bits x (suc n) = bits x n + bit x n

-- how many features the product p has; a sheet has at most ten
abbrev pub features : ℕ → ℕ
features p = bits p 10

-- p is q or plainer: "the fewest features, then the smallest number"
pub data Plainer (p q : ℕ) : Type 0 where
  fewer : features p < features q → Plainer p q
  as_many : features p ≡ features q → p ≤ q → Plainer p q

-- p is q or stands before it
abbrev pub Before : Order → ℕ → ℕ → Type 0
Before Plainest p q = Plainer p q
Before ByNumber p q = p ≤ q
