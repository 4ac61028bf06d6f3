-- `line_of`: the room takes the line whole. Assumes nothing.
use borrow.Author.Rules.{rules}
use Rattle.run.proofs.line_of.Goals as goal

pub returns : goal.returns
returns c = c.put_called.ensures.whole (search rules)
