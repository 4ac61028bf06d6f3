-- `same_bytes`. Slices are compared as the definition does. Assumes nothing.
use Rattle.std.proofs.Common.{◌∙◌}
use Rattle.fields.proofs.Same.{same_pointwise}
use Rattle.fields.proofs.same_bytes.Goals as goal

pub returns : goal.returns
returns c = c.eq.ensures ∙ same_pointwise c.args.x.now c.args.y.now
