-- `features_of` meets its contract: a product's features are the bits that are 1 in its number. Assumes nothing.
use Rattle.products.proofs.Bits.{ones_bits}
use Rattle.members.proofs.features_of.Goals as goal

pub returns : goal.returns
returns c = ones_bits 10 c.args.p c.requires
