-- `answer`: what `put_answer` leaves after the call is what is printed. Assumes nothing.
use Rattle.calls.proofs.Shown.{printed}
use borrow.Author.Rules.{rules}
use Rattle.report.proofs.answer.Goals as goal

pub returns : goal.returns
returns c = printed c.report-a.ensures c.put_answer.ensures (search rules)
