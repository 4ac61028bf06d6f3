-- `read_byte`: the byte is the reader's next. Assumes nothing.
use native.Mathlib.Omega.{arith}
use borrow.Author.Rules.{rules}
use Rattle.console.proofs.Came.{byte_came}
use Rattle.console.proofs.read_byte.Goals as goal

pub returns : goal.returns
returns g c =
    byte_came _ _ _ _ _ _ (omega arith) c.in_ok-piece.ensures c.read-got.ensures.bound c.read-got.ensures.bytes c.map.ensures.cases (λ n b h. search rules)
