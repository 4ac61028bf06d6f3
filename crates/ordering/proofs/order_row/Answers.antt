-- `order_row` meets its contract: a row that no product makes is passed over, any other is put in. Assumes nothing.
use Rattle.std.proofs.Common.{[]}
use Rattle.ordering.proofs.Turns.{row_none, row_dead, row_made, orders_pass, orders_take}
use Rattle.ordering.proofs.order_row.Goals as goal

pub returns-in_default : goal.returns-in_default
returns-in_default c = λ first o. orders_pass o (row_none _ _ _ _ c.in_default.ensures.lookup.3)

pub returns-then-not-meets : goal.returns-then-not-meets
returns-then-not-meets c =
    λ first o. orders_pass o (row_dead _ _ _ _ (rw (c.in-Some.ensures.lookup.3.1 []) at (c.meets.ensures.1 c.if-not-meets.true)))

pub returns : goal.returns
returns c =
    λ first o. orders_take o c.insert-place.ensures (row_made _ _ _ _ (rw (c.in-Some.ensures.lookup.3.1 []) at (c.meets.ensures.0 c.if-not-meets.false)))
