use Rattle.members.proofs.Layers.{from_none, word_none, layers_past, layer_none, layer_least}
use Rattle.members.proofs.plainest_in.Goals as goal

pub returns-then-x-eq0 : goal.returns-then-x-eq0
returns-then-x-eq0 c = word_none c.if-x-eq0.true

pub loop-n-init : goal.loop-n-init
loop-n-init c = from_none _ _

pub loop-n-preserved : goal.loop-n-preserved
loop-n-preserved c = layer_none _ _ c.loop-n.auto.n c.with_features.ensures c.loop-n.invariant c.if-layer-ne0.false

pub returns-then-layer-ne0 : goal.returns-then-layer-ne0
returns-then-layer-ne0 c =
    let low = c.lowest.ensures in
    layer_least _ _ c.loop-n.auto.n c.with_features.ensures _ c.features_of_word-common.ensures c.loop-n.invariant c.loop-n-test.true low.place low.has low.first

pub returns : goal.returns
returns c = layers_past c.args.w c.features_of_word-common.ensures c.loop-n.invariant c.loop-n-test.false
