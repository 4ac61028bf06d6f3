-- `line::read_triple` meets its contract: a law of `Moves` for each return. Assumes nothing.
use Rattle.sheet.proofs.Moves.{triple_from, triple_action, triple_to, triple_good}
use Rattle.sheet.proofs.line.read_triple.Goals as goal

pub returns-in_default : goal.returns-in_default
returns-in_default c = triple_from _ _ _ _ _ _ c.in_default.is c.read_state.ensures c.refuse.ensures

pub returns-then-not-is_action : goal.returns-then-not-is_action
returns-then-not-is_action c =
    triple_action _ _ _ _ _ _ c.in-Some.is c.read_state.ensures
    c.is_action.ensures c.if-not-is_action.true c.refuse-then-not-is_action.ensures

pub returns-in_default-read_state : goal.returns-in_default-read_state
returns-in_default-read_state c =
    triple_to _ _ _ _ _ _ c.in-Some.is
    c.read_state.ensures c.is_action.ensures
    c.if-not-is_action.false c.in_default-read_state.is c.read_state-2.ensures c.refuse-in_default-read_state.ensures

pub returns : goal.returns
returns c =
    triple_good _ _ _ _ _ _ c.in-Some.is
    c.read_state.ensures
    c.is_action.ensures c.if-not-is_action.false c.in-Some-read_state.is
    c.read_state-2.ensures
