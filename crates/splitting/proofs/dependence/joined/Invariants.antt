-- `joined` meets its contract. The loop's invariant: the words so far are joined. Assumes nothing.
use Rattle.splitting.specs.Inside.{Joins}
use Rattle.splitting.proofs.dependence.joined.Given as goal

abbrev pub invariant-loop-word : goal.invariant-loop-word
invariant-loop-word l = Joins l.r l.set l.word-index
