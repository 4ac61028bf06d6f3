use Rattle.std.proofs.Common.{sym, ◌∙◌, arith}
use Rattle.sheet.proofs.Looking.{looked_all, looked_more, looked_found, looked_none, move_found, move_more, move_none}
use Rattle.sheet.proofs.row.has_move.Goals as goal

pub loop-i-init : goal.loop-i-init
loop-i-init c = rw c.min-i.ensures (looked_all _ _ _)

pub returns-then-is_move : goal.returns-then-is_move
returns-then-is_move c =
    looked_found _ _ c.loop-i.invariant (omega arith)
    (λ m ms h. move_found _ _ _ m ms (sym (c.is_move.ensures m h) ∙ c.if-is_move.true))

pub loop-i-preserved : goal.loop-i-preserved
loop-i-preserved c =
    looked_more _ _ c.loop-i.invariant (omega arith)
    (λ m ms h. move_more _ _ _ m ms (sym (c.is_move.ensures m h) ∙ c.if-is_move.false))

pub returns : goal.returns
returns c = looked_none _ _ c.loop-i.invariant (omega arith) (move_none _ _ _)
