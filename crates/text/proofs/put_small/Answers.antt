-- `put_small`: the digits are those of n / 100, n / 10 and n, as many as n has. Assumes nothing.
use native.Mathlib.Omega.{arith}
use Rattle.text.proofs.Laws.{number_one, number_two, number_three}
use Rattle.text.proofs.put_small.Goals as goal

pub returns-then-n-lt10 : goal.returns-then-n-lt10
returns-then-n-lt10 c = number_one c.put.ensures (omega arith) (omega arith)

pub returns-then-n-lt100 : goal.returns-then-n-lt100
returns-then-n-lt100 c = number_two c.put-a.ensures c.put-then-n-lt100.ensures (omega arith) (omega arith) (omega arith) (omega arith)

pub returns : goal.returns
returns c = number_three c.put-b.ensures c.put-c.ensures c.put-2.ensures (omega arith) (omega arith) (omega arith) (omega arith) (omega arith)
