-- `named_word` meets its contract: the bits of the four words together. Assumes nothing.
use Rattle.reporting.proofs.Loops.{all_named}
use Rattle.reporting.proofs.named_word.Goals as goal

pub returns : goal.returns
returns c = all_named _ _ _ _
