-- `put_answer`: the text as it lies, or the refusal's line. Assumes nothing.
use mathlib.Core.Path.{refl}
use Rattle.refusals.proofs.Short.{refusal_whole}
use Rattle.calls.specs.Shown.{text, line}
use borrow.Author.Rules.{rules}
use Rattle.calls.proofs.put_answer.Goals as goal

pub returns-in-Ok : goal.returns-in-Ok
returns-in-Ok c = rw c.in-Ok.is (text refl)

pub returns-in-Err : goal.returns-in-Err
returns-in-Err c = rw c.in-Err.is (line c.put_refusal.ensures (λ l. refusal_whole _ c.put_refusal.ensures (search rules) (search rules) (search rules) l))
