use Rattle.std.proofs.Common.{List, [], ℕ, ◌<◌, length-take, get_or-take, arith, rules}
use Rattle.cleaning.proofs.Loops.{features_none, features_more, features_all}
use Rattle.cleaning.proofs.put_features.Goals as goal

pub loop-row-init : goal.loop-row-init
loop-row-init c = features_none (search rules)

pub loop-row-preserved : goal.loop-row-preserved
loop-row-preserved c =
    let h : c.loop-row.row-index < c.min-n.result = omega (arith, length-take {A = List ℕ}) in
    features_more c.loop-row.invariant (rw (get_or-take c.min-n.result c.args.desk.now.sheet.names.now c.loop-row.row-index [] h) at c.put_feature-next.ensures)

pub returns : goal.returns
returns c = features_all _ c.loop-row.invariant c.min-n.ensures (omega (arith, length-take {A = List ℕ}))
