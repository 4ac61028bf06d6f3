-- `put_called` meets its contract: the place, or the refusal. Assumes nothing.
use Rattle.text.proofs.Laws.{wrote_long}
use Rattle.running.proofs.Shown.{place_told, refusal_told}
use borrow.Author.Rules.{rules}
use Rattle.running.proofs.put_called.Goals as goal

pub shape_of-room-in-Ok : goal.shape_of-room-in-Ok
shape_of-room-in-Ok c = wrote_long c.put_place.ensures

pub returns-in-Ok : goal.returns-in-Ok
returns-in-Ok c = place_told _ c.in-Ok.is c.put_place.ensures

pub shape_of-room-in-Err : goal.shape_of-room-in-Err
shape_of-room-in-Err c = wrote_long c.put_refusal.ensures

pub returns-in-Err : goal.returns-in-Err
returns-in-Err c = refusal_told _ _ c.in-Err.is c.put_refusal.ensures (search rules) (search rules) (search rules)
