-- `words_below` meets its contract: each number by its computed test. Assumes nothing.
use Rattle.std.proofs.Common.{arith, inr}
use Rattle.products.specs.Orders.{bits}
use Rattle.products.proofs.Bits.{passes}
use Rattle.members.proofs.Layers.{words_have}
use Rattle.members.proofs.words_below.Goals as goal

pub returns-in-2 : goal.returns-in-2
unfolding passes bits
returns-in-2 c = (omega arith, inr (words_have 2 _ tt c.in-2.is))

pub returns-in-3 : goal.returns-in-3
unfolding passes bits
returns-in-3 c = (omega arith, inr (words_have 3 _ tt c.in-3.is))

pub returns-in-4 : goal.returns-in-4
unfolding passes bits
returns-in-4 c = (omega arith, inr (words_have 4 _ tt c.in-4.is))

pub returns-in_default : goal.returns-in_default
returns-in_default c = (omega arith, inr (λ w l past. absurd (omega arith)))
