-- `first_word` meets its contract: each word by its computed test. Assumes nothing.
use mathlib.Core.Path.{sym, ◌∙◌}
use native.Mathlib.Omega.{arith}
use Rattle.products.proofs.Bits.{passes, first_bit, ones_bit, all_below}
use Rattle.products.proofs.first_word.Goals as goal

pub returns-in-0 : goal.returns-in-0
unfolding passes
returns-in-0 c = first_bit _ 0 tt c.in-0.is

pub returns-in-1 : goal.returns-in-1
unfolding passes
returns-in-1 c = first_bit _ 1 tt c.in-1.is

pub returns-in-2 : goal.returns-in-2
unfolding passes
returns-in-2 c = first_bit _ 2 tt c.in-2.is

pub returns-in-3 : goal.returns-in-3
unfolding passes
returns-in-3 c = first_bit _ 3 tt c.in-3.is

pub returns-in-4 : goal.returns-in-4
unfolding passes
returns-in-4 c = first_bit _ 4 tt c.in-4.is

pub returns-in-5 : goal.returns-in-5
unfolding passes
returns-in-5 c = first_bit _ 5 tt c.in-5.is

pub returns-in_default : goal.returns-in_default
returns-in_default c k lk = ones_bit k lk ∙ sym (all_below 6 _ (omega arith) k lk)
