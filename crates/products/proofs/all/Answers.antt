-- `all` meets its contract. Up to 6 features only the first word has products, from 7 to 9 the set by its computed test, from 10 on every word is full.
-- Assumes nothing.
use mathlib.Core.Path.{sym, ◌∙◌}
use native.Mathlib.Omega.{arith}
use Rattle.products.proofs.Bits.{passes, all_below}
use Rattle.products.proofs.Laws.{full_has}
use Rattle.products.proofs.Filled.{first_alone, all_has}
use Rattle.products.proofs.all.Goals as goal

pub returns-then-n-le6 : goal.returns-then-n-le6
returns-then-n-le6 c = first_alone _ c.if-n-le6.true c.first_word-word.ensures

pub returns-in-7 : goal.returns-in-7
unfolding passes
returns-in-7 c = all_has _ 7 tt c.in-7.is

pub returns-in-8 : goal.returns-in-8
unfolding passes
returns-in-8 c = all_has _ 8 tt c.in-8.is

pub returns-in-9 : goal.returns-in-9
unfolding passes
returns-in-9 c = all_has _ 9 tt c.in-9.is

pub returns-in_default : goal.returns-in_default
returns-in_default c p lp = full_has p lp ∙ sym (all_below 10 _ (omega arith) p lp)
