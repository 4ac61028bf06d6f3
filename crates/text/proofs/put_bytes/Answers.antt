-- `put_bytes`: past the room's end nothing is laid; else as many bytes are copied as fit. Assumes nothing.
use Rattle.text.proofs.Laws.{wrote_past, wrote_fitting}
use borrow.Author.Rules.{rules}
use Rattle.text.proofs.put_bytes.Goals as goal

pub returns-then-room-at : goal.returns-then-room-at
returns-then-room-at c = wrote_past (search rules) c.place_behind-next.ensures c.if-room-at.true

pub returns : goal.returns
returns c = wrote_fitting (search rules) c.place_behind-next.ensures c.min-fits.ensures c.if-room-at.false c.copy_from_slice.ensures.after
