-- `before` meets its contract: from, then to, then the action, a law for each return. Assumes nothing.
use Rattle.std.proofs.Common.{ap₂, ◌∙◌}
use Rattle.ordering.specs.Ordering.{less_bytes}
use Rattle.ordering.proofs.Places.{before_from, before_to, before_action}
use Rattle.ordering.proofs.before.Goals as goal

pub returns-then-from-other : goal.returns-then-from-other
returns-then-from-other c = before_from _ _ _ _ c.if-from-other.true

pub returns-then-to-onto : goal.returns-then-to-onto
returns-then-to-onto c = before_to _ _ _ _ _ _ c.if-from-other.false c.if-to-onto.true

pub returns : goal.returns
returns c =
    c.less.ensures
    ∙ ap₂ less_bytes c.piece.ensures c.piece-2.ensures
    ∙ before_action _ _ _ _ _ _ c.if-from-other.false c.if-to-onto.false
