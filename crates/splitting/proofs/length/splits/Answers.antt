-- `splits` meets its contract: the first word for six features, whole words for the later ones. Assumes nothing.
use mathlib.Core.Path.{refl}
use Rattle.splitting.proofs.Marks.{step_small}
use Rattle.splitting.proofs.Choices.{step_words, further_bits, further_words}
use Rattle.splitting.proofs.length.splits.Goals as goal

pub overflow_shl-split-then-i-lt6 : goal.overflow_shl-split-then-i-lt6
overflow_shl-split-then-i-lt6 c = step_small _ c.if-i-lt6.true

pub returns-then-i-lt6 : goal.returns-then-i-lt6
returns-then-i-lt6 c = λ met. further_bits met c.if-i-lt6.true c.ones.ensures

pub word_splits-requires : goal.word_splits-requires
word_splits-requires c = step_words _ c.if-i-lt6.false c.requires

pub returns : goal.returns
returns c = λ met. further_words c.word_splits.ensures refl c.if-i-lt6.false c.requires met
