use Rattle.std.proofs.Common.{ap₂, ◌∙◌, arith, rules}
use Rattle.ordering.specs.Ordering.{less_bytes}
use Rattle.ordering.proofs.Places.{between_front, between_back}
use Rattle.ordering.proofs.place_of.Goals as goal

pub loop-low-preserved-then-before : goal.loop-low-preserved-then-before
loop-low-preserved-then-before c = (
  search rules,
  search rules,
  λ v.
      between_front
      v
      (c.loop-low.invariant.2 v)
      (omega arith)
      c.from-y.ensures
      (c.before-in-loop-low.ensures
      ∙ ap₂ less_bytes (c.row_at-row.ensures _) (c.row_at.ensures _))
      c.if-before.true,
)

pub loop-low-preserved : goal.loop-low-preserved
loop-low-preserved c = (
  search rules,
  search rules,
  λ v.
      between_back
      v
      (c.loop-low.invariant.2 v)
      (omega arith)
      c.from-y.ensures
      (c.before-in-loop-low.ensures
      ∙ ap₂ less_bytes (c.row_at-row.ensures _) (c.row_at.ensures _))
      c.if-before.false,
)
