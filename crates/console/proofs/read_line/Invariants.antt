-- `read_line`: what came so far is a line without its end, which left the reader; the measure is the number of turns that are left. Assumes nothing.
use Rattle.console.proofs.Lined.{Begun}
use Rattle.console.proofs.read_line.Given as goal

abbrev pub invariant-loop : goal.invariant-loop
invariant-loop g l = Begun (g.R.Read.remaining l.initial.reader) (g.R.Read.remaining l.reader) l.initial.buf l.buf l.n
