use Rattle.splitting.proofs.Marks.{step_small, across_none, across_more, across_typical}
use Rattle.splitting.proofs.dependence.across.Goals as goal

pub overflow_shr-result : goal.overflow_shr-result
overflow_shr-result c = step_small _ c.requires.0

pub returns-in-Some : goal.returns-in-Some
returns-in-Some c = across_typical (c.requires.1 _ c.in-Some.is) c.requires.0

pub loop-word-init : goal.loop-word-init
loop-word-init c = across_none _ _

pub overflow_shr-r : goal.overflow_shr-r
overflow_shr-r c = step_small _ c.requires.0

pub loop-word-preserved : goal.loop-word-preserved
loop-word-preserved c = across_more c.loop-word.invariant c.requires.0 c.loop-word-test.true
