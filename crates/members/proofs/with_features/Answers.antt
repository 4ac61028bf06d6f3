-- `with_features` meets its contract: each word by its computed test. Assumes nothing.
use Rattle.std.proofs.Common.{arith}
use Rattle.products.specs.Orders.{bits}
use Rattle.products.proofs.Bits.{passes}
use Rattle.members.proofs.Layers.{features_word, features_past}
use Rattle.members.proofs.with_features.Goals as goal

pub returns-in-0 : goal.returns-in-0
unfolding passes bits
returns-in-0 c = features_word _ 0 tt c.in-0.is

pub returns-in-1 : goal.returns-in-1
unfolding passes bits
returns-in-1 c = features_word _ 1 tt c.in-1.is

pub returns-in-2 : goal.returns-in-2
unfolding passes bits
returns-in-2 c = features_word _ 2 tt c.in-2.is

pub returns-in-3 : goal.returns-in-3
unfolding passes bits
returns-in-3 c = features_word _ 3 tt c.in-3.is

pub returns-in-4 : goal.returns-in-4
unfolding passes bits
returns-in-4 c = features_word _ 4 tt c.in-4.is

pub returns-in-5 : goal.returns-in-5
unfolding passes bits
returns-in-5 c = features_word _ 5 tt c.in-5.is

pub returns-in-6 : goal.returns-in-6
unfolding passes bits
returns-in-6 c = features_word _ 6 tt c.in-6.is

pub returns-in_default : goal.returns-in_default
returns-in_default c = features_past (omega arith)
