-- `serve`: 1 and 2 by the length, else by a size of tables. Assumes nothing.
use native.Mathlib.Omega.{arith}
use Rattle.sheet.proofs.Whole.{read_long, read_empty}
use Rattle.calls.proofs.Served.{refused_served}
use Rattle.calls.proofs.serve.Goals as goal

pub returns-then-text-gt-MOST_BYTES : goal.returns-then-text-gt-MOST_BYTES
returns-then-text-gt-MOST_BYTES c = rw c.refuse.ensures (refused_served (read_long _ (omega (arith, c.if-text-gt-MOST_BYTES.true))))

pub returns-then-text-eq0 : goal.returns-then-text-eq0
returns-then-text-eq0 c = rw c.refuse-then-text-eq0.ensures (refused_served (read_empty _ (omega (arith, c.if-text-eq0.true))))
