-- `spread_out`: where the highest state is below 8, eight rows are enough; 64 always are. Assumes nothing.
use Rattle.std.proofs.Common.{arith}
use Rattle.family.proofs.Room.{highest_below}
use Rattle.calls.proofs.spread_out.Goals as goal

pub spread_in-requires : goal.spread_in-requires
spread_in-requires c = (omega arith, omega (arith, c.highest.ensures, c.if-highest-lt-LOW.true))

pub spread_in-requires-2 : goal.spread_in-requires-2
spread_in-requires-2 c = (omega arith, highest_below _ _ _ 64 (omega arith) (λ i l. omega arith))
