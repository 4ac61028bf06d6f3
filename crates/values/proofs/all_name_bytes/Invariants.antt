-- `all_name_bytes`. The invariant: what was found and what is left tell it of all. Assumes nothing.
use Rattle.values.proofs.Names.{Found}
use Rattle.values.proofs.all_name_bytes.Given as goal

abbrev pub invariant-loop-b : goal.invariant-loop-b
invariant-loop-b l = Found l.s l.good l.b-index
