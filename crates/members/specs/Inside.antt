-- What the functions inside promise each other. Nobody has to believe this page: the promises of `members` do not speak of it. Assumes nothing: these
-- are definitions.
use Rattle.std.specs.Prelude.{◌≡◌, ℕ, ◌/◌, ◌%◌, ◌<◌}
use Rattle.products.specs.Sets.{bit}
use Rattle.products.specs.Orders.{features}

-- the product q lies in word w, the word x has it, and it has fewer than n features
pub record InWord (w x n q : ℕ) : Type 0 where
  pub word : q / 64 ≡ w
  pub one : bit x (q % 64) ≡ 1
  pub less : features q < n
