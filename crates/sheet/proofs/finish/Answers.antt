-- `finish` meets its contract: the set that is left has exactly the valid products, and is empty where there is none. Assumes nothing.
use Rattle.sheet.proofs.Whole.{early, late, lacking, no_product, finished}
use Rattle.sheet.proofs.finish.Goals as goal

pub returns-in_default : goal.returns-in_default
returns-in_default c = λ s n m g t h seen st so. lacking so _ (early c.in_default.not-BehindStart c.in_default.not-BehindStop) c.refuse.ensures

pub returns-then-is_empty : goal.returns-then-is_empty
returns-then-is_empty c =
    λ s n m g t h seen st so.
    no_product so _ (late c.in-BehindStart.is) _ _ c.both-allowed.ensures
    c.all.ensures (c.is_empty.ensures.0 c.if-is_empty.true) c.refuse-then-is_empty.ensures

pub returns : goal.returns
returns c =
    λ s n m g t h seen st so.
    finished so _ (late c.in-BehindStart.is) _ _ c.both-allowed.ensures
    c.all.ensures (c.is_empty.ensures.1 c.if-is_empty.false)
