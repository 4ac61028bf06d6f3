-- `run_end`. The invariant: what is passed and the run that is left make the run. Assumes nothing.
use Rattle.fields.proofs.Runs.{Passed}
use Rattle.fields.proofs.run_end.Given as goal

abbrev pub invariant-loop-i : goal.invariant-loop-i
invariant-loop-i l = Passed l.s l.at l.i
