use native.Mathlib.Omega.{arith}
use Rattle.splitting.proofs.Choices.{word_few, widened_more}
use Rattle.splitting.proofs.length.word_splits.Goals as goal

pub overflow_add-k : goal.overflow_add-k
overflow_add-k c = omega (arith, word_few _ c.ones-k.ensures, c.loop-w.invariant.1)

pub loop-w-preserved : goal.loop-w-preserved
loop-w-preserved c =
    let inv = c.loop-w.invariant in (
      omega arith,
      omega (arith, word_few _ c.ones-k.ensures, inv.1),
      λ e. widened_more (inv.2 e) c.requires c.loop-w-test.true c.ones-k.ensures,
    )
