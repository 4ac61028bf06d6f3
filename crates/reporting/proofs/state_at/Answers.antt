-- `state_at` meets its contract: where no stop line is for the state, the products that leave it are all that is excused. Assumes nothing.
use Rattle.std.proofs.Common.{◌∙◌}
use Rattle.reporting.proofs.Loops.{none_declared}
use Rattle.reporting.proofs.state_at.Goals as goal

pub returns-then-stopped-q-eq0 : goal.returns-then-stopped-q-eq0
returns-then-stopped-q-eq0 c = λ n e mark. (_, (λ p lp. none_declared _ _ _ n c.if-stopped-q-eq0.true mark _ p), c.judge_state.ensures)

pub returns : goal.returns
returns c =
    λ n e mark. (
      _,
      λ p lp. c.either-excused.ensures p lp ∙ rw (e, c.declared_at-declared.ensures p lp),
      c.judge_state-2.ensures,
    )
