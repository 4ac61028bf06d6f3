-- Eight bytes as one number, the first of them that is a given byte, and lists that begin alike: what the functions inside `find` and `shared` promise each
-- other. Nobody has to believe this page: the promises of these two do not speak of it. Assumes nothing: these are definitions.
use Rattle.std.specs.Prelude.{◌≡◌, ℕ, zero, suc, ◌+◌, ◌*◌, ◌<◌, ◌≤◌, List, length, take, ◌≢◌}

-- the number whose n digits to base 256 are f 0, f 1 and so on, the first lowest
abbrev pub word : (f : ℕ → ℕ) (n : ℕ) → ℕ
word f zero = 0
word f (suc n) = word (λ k. f (suc k)) n * 256 + f 0

-- w is the number of f 0 to f 7, and each is a byte
pub record Digits (f : ℕ → ℕ) (w : ℕ) : Type 0 where
  pub whole : w ≡ word f 8
  pub small : (k : ℕ) → f k < 256

-- r is the first number below n at which f is m, or n
pub record FirstOf (f : ℕ → ℕ) (m n r : ℕ) : Type 0 where
  pub high : r ≤ n
  pub clear : (k : ℕ) → k < r → f k ≢ m
  pub here : r < n → f r ≡ m

-- x and y both have r bytes or more, and the first r of them are the same
pub record BeginAlike (x y : List ℕ) (r : ℕ) : Type 0 where
  pub left : r ≤ length x
  pub right : r ≤ length y
  pub same : take r x ≡ take r y
