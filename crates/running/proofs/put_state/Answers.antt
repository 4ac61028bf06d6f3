-- `put_state` meets its contract: nothing, or a tab and the number. Assumes nothing.
use mathlib.Core.Path.{◌∙◌}
use Rattle.text.proofs.Laws.{wrote_none, wrote_long, wrote_then}
use Rattle.running.proofs.Shown.{state_absent, state_laid}
use borrow.Author.Rules.{rules}
use Rattle.running.proofs.put_state.Goals as goal

pub returns-then-not-has : goal.returns-then-not-has
returns-then-not-has c = state_absent c.args.place _ c.has.ensures c.if-not-has.true-raw (wrote_none (search rules))

pub shape_of-room : goal.shape_of-room
shape_of-room c = wrote_long c.put_number.ensures ∙ wrote_long c.put-a.ensures

pub returns : goal.returns
returns c = state_laid c.args.place _ c.has.ensures c.if-not-has.false-raw (wrote_then c.put-a.ensures c.put_number.ensures)
