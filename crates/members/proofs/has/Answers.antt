-- `has` meets its contract: a word's bit says it. Assumes nothing.
use Rattle.std.proofs.Common.{arith}
use Rattle.members.proofs.Membership.{in_word}
use Rattle.members.proofs.has.Goals as goal

pub returns : goal.returns
returns c = in_word _ _ (omega arith)
