use native.Mathlib.Omega.{arith}
use Rattle.text.proofs.Laws.{number_more}
use Rattle.text.proofs.+put_number.Goals as goal

pub returns : goal.returns
returns t c = number_more c.put_number-next.ensures c.put.ensures (omega arith) (omega arith) (omega arith) (omega arith)
