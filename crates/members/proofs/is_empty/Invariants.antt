-- `is_empty` meets its contract. The loop's invariant: all is 0 exactly where the words passed are. Assumes nothing.
use Rattle.members.proofs.Joined.{Joined, word_of}
use Rattle.members.proofs.is_empty.Given as goal

abbrev pub invariant-loop-word : goal.invariant-loop-word
invariant-loop-word l = Joined (word_of l.fn.s) l.word-index l.all
