-- `number`: the digits passed so far come to n. Assumes nothing.
use Rattle.console.proofs.Spelt.{Spelt}
use Rattle.console.proofs.number.Given as goal

abbrev pub invariant-loop-b : goal.invariant-loop-b
invariant-loop-b l = Spelt l.word l.b-index l.n
