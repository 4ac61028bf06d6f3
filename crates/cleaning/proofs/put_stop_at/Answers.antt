-- `put_stop_at`: a state without a set has no line; else what `put_stop` lays. Assumes nothing.
use Rattle.std.proofs.Common.{rules}
use Rattle.cleaning.proofs.Lines.{stop_none}
use Rattle.cleaning.proofs.put_stop_at.Goals as goal

pub returns-then-desk-q : goal.returns-then-desk-q
returns-then-desk-q c = stop_none _ c.args.desk.now.sets.now c.if-desk-q.true (search rules)
