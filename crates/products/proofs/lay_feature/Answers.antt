-- `lay_feature` meets its contract. Below 6 every word is the mask, from 6 to 9 the set by its computed test. Assumes nothing.
use mathlib.Core.Path.{sym, ◌∙◌}
use native.Mathlib.Omega.{arith}
use Rattle.products.proofs.Bits.{passes, low_bits, past_bit}
use Rattle.products.proofs.Laws.{empty_has}
use Rattle.products.proofs.Filled.{all_alike, feature_has}
use Rattle.products.proofs.lay_feature.Goals as goal

pub returns-then-i-lt6 : goal.returns-then-i-lt6
returns-then-i-lt6 c = all_alike _ _ (λ w k lk. c.mask-word.ensures k lk ∙ sym (low_bits w k _ c.if-i-lt6.true))

pub returns-in-6 : goal.returns-in-6
unfolding passes
returns-in-6 c = feature_has _ 6 tt c.in-6.is

pub returns-in-7 : goal.returns-in-7
unfolding passes
returns-in-7 c = feature_has _ 7 tt c.in-7.is

pub returns-in-8 : goal.returns-in-8
unfolding passes
returns-in-8 c = feature_has _ 8 tt c.in-8.is

pub returns-in-9 : goal.returns-in-9
unfolding passes
returns-in-9 c = feature_has _ 9 tt c.in-9.is

pub returns-in_default : goal.returns-in_default
returns-in_default c p lp = empty_has p ∙ sym (past_bit 10 _ (omega arith) p lp)
