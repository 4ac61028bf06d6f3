-- `marked` meets its contract. Assumes nothing.
use Rattle.products.specs.Sets.{has}
use borrow.Author.Rules.{rules}
use Rattle.splitting.proofs.dependence.marked.Goals as goal

pub returns : goal.returns
unfolding has
returns c = search rules
