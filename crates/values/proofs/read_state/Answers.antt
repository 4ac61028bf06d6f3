-- `read_state`. Another list than one of one or two bytes is no state. Assumes nothing.
use Rattle.values.proofs.States.{none_short, none_long}
use Rattle.values.proofs.read_state.Goals as goal

pub returns-in_default : goal.returns-in_default
returns-in_default c = none_short _ c.in_default.len_below

pub returns-in_default-2 : goal.returns-in_default-2
returns-in_default-2 c = none_long _ c.in_default.len_at_least
