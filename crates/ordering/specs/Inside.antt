-- What the functions inside `order_moves` promise each other: where a row's place is among rows in order. Nobody has to believe this page: the promise
-- of `order_moves` does not speak of it. Assumes nothing: these are definitions.
use Rattle.std.specs.Prelude.{true, false, List, ◌≡◌, ℕ, ◌≤◌, ◌<◌, get_or}
use Rattle.ordering.specs.Ordering.{less_bytes}

-- the first k places hold rows in order: no later one is before an earlier one
pub record Level (key : ℕ → List ℕ) (k : ℕ) (order : List ℕ) : Type 0 where
  pub is : (i j : ℕ) → i < j → j < k → less_bytes (key (get_or order j 0)) (key (get_or order i 0)) ≡ false

-- of the rows in the first k places, x is before none of those in front of place `low`, and before all of those from place `high` on
pub record Between (key : ℕ → List ℕ) (x k : ℕ) (order : List ℕ) (low high : ℕ) : Type 0 where
  pub stay : (i : ℕ) → i < low → less_bytes (key x) (key (get_or order i 0)) ≡ false
  pub follow : (i : ℕ) → high ≤ i → i < k → less_bytes (key x) (key (get_or order i 0)) ≡ true
