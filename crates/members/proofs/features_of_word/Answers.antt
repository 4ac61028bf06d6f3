-- `features_of_word` meets its contract: the digits are shown by one computed test. Assumes nothing.
use Rattle.products.specs.Orders.{bits}
use Rattle.products.proofs.Bits.{passes}
use Rattle.members.proofs.Layers.{word_features}
use Rattle.members.proofs.features_of_word.Goals as goal

pub returns : goal.returns
unfolding passes bits
returns c = word_features _ _ tt c.requires
