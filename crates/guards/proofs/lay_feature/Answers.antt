-- `lay_feature` meets its contract: a product has the feature where its bit is 1. Assumes nothing.
use Rattle.guards.proofs.Meanings.{means_feature}
use Rattle.guards.proofs.lay_feature.Goals as goal

pub returns : goal.returns
returns c = means_feature _ _ c.lay_feature.ensures
