-- `one_digit`. Each return by the law for the test that led to it. Assumes nothing.
use Rattle.std.proofs.Common.{sym, ◌∙◌}
use Rattle.fields.specs.Bytes.{read_state}
use Rattle.values.proofs.one_digit.Goals as goal

pub returns-then-is_ascii_digit : goal.returns-then-is_ascii_digit
unfolding read_state
returns-then-is_ascii_digit c = rw (sym c.is_ascii_digit.ensures.value ∙ c.if-is_ascii_digit.true, c.from.ensures)

pub returns : goal.returns
unfolding read_state
returns c = rw (sym c.is_ascii_digit.ensures.value ∙ c.if-is_ascii_digit.false)
