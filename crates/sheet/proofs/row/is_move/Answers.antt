-- `row::is_move` meets its contract: a row's numbers are the move's. Assumes nothing.
use Rattle.std.proofs.Common.{sym, ◌∙◌}
use borrow.Author.Tests.{eqb-true, eqb-false}
use Rattle.sheet.proofs.Looking.{from_other, to_other, action_same}
use Rattle.sheet.proofs.row.is_move.Goals as goal
use Rattle.sheet.proofs.row.is_move.Goals.{then-from-row, else-from-row}

pub returns-then-to-row : goal.returns-then-to-row
returns-then-to-row c =
    λ m h.
    elim c.if-from-row.branch [
      | then-from-row w ↦ action_same _ _ _ h w.if-from-row.true (eqb-true _ _ (sym w.value-is ∙ c.if-to-row.true)) c.piece.ensures c.same_bytes.ensures
      | else-from-row w ↦ absurd (w.if-from-row.false (eqb-true _ _ (sym w.value-is ∙ c.if-to-row.true)))
    ]

pub returns-else-to-row : goal.returns-else-to-row
returns-else-to-row c =
    λ m h.
    c.if-to-row.false
    ∙ elim c.if-from-row.branch [
      | then-from-row w ↦ to_other _ _ _ h w.if-from-row.true (eqb-false _ _ (sym w.value-is ∙ c.if-to-row.false))
      | else-from-row w ↦ from_other _ _ _ h w.if-from-row.false
    ]
