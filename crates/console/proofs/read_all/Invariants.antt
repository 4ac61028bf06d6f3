-- `read_all`: what came so far is one text, which left the reader and is laid from the buffer's begin on (`Sofar`); the measure is the number of turns that are left.
-- Assumes nothing.
use Rattle.console.proofs.Sofar.{Sofar}
use Rattle.console.proofs.read_all.Given as goal

abbrev pub invariant-loop : goal.invariant-loop
invariant-loop g l = Sofar (g.R.Read.remaining l.initial.reader) (g.R.Read.remaining l.reader) l.initial.buf l.buf l.at
