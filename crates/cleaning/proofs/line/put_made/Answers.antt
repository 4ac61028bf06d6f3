-- `put_made`: a law of `Lines` for each return. Assumes nothing.
use Rattle.std.proofs.Common.{arith}
use Rattle.cleaning.proofs.Lines.{made_full, made_split}
use Rattle.cleaning.proofs.line.put_made.Goals as goal

pub returns-then-not-exceeds : goal.returns-then-not-exceeds
returns-then-not-exceeds c =
    made_full _ (c.exceeds.ensures.1 c.if-not-exceeds.true) c.put.ensures

pub returns : goal.returns
returns c =
    made_split _ (c.exceeds.ensures.0 c.if-not-exceeds.false) _ c.both-made.ensures (omega arith) c.put_guard.ensures
