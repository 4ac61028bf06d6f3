-- `across` meets its contract. The loop's invariant: the words so far. A word that stands for all is enough. Assumes nothing.
use Rattle.splitting.proofs.Marks.{Across}
use Rattle.splitting.proofs.dependence.across.Given as goal

abbrev pub invariant-loop-word : goal.invariant-loop-word
invariant-loop-word l = Across l.set l.i l.r l.word-index
