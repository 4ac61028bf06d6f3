use mathlib.Core.Path.{◌∙◌}
use native.Mathlib.Omega.{arith}
use Rattle.text.specs.Text.{texts}
use Rattle.text.proofs.Laws.{wrote_none, wrote_long}
use Rattle.running.proofs.Shown.{states_more, line_laid}
use borrow.Author.Rules.{rules}
use Rattle.running.proofs.put_place.Goals as goal

pub loop-q-init : goal.loop-q-init
unfolding texts
loop-q-init c = (omega arith, wrote_none (search rules))

pub loop-q-preserved : goal.loop-q-preserved
loop-q-preserved c = (omega (arith, c.loop-q-test.true), states_more _ _ c.loop-q.invariant.1 c.put_state-next.ensures)

pub shape_of-room : goal.shape_of-room
shape_of-room c = wrote_long c.put.ensures ∙ wrote_long c.loop-q.invariant.1 ∙ wrote_long c.put_bytes-next.ensures

pub returns : goal.returns
returns c = line_laid _ _ c.put_bytes-next.ensures c.loop-q.invariant.1 (omega (arith, c.loop-q.invariant.0, c.loop-q-test.false)) c.put.ensures
