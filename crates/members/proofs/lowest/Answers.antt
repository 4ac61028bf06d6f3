-- `lowest` meets its contract: it is the library's law on `trailing_zeros`. Assumes nothing.
use Rattle.std.proofs.lemmas.Nat.Bits.{bit_at-trailing_zeros}
use Rattle.std.proofs.Common.{w64}
use Rattle.members.proofs.lowest.Goals as goal

pub returns-clause-has : goal.returns-clause-has
returns-clause-has c = (bit_at-trailing_zeros w64 c.args.x c.requires c.ranges.x.fits).1

pub returns-clause-first : goal.returns-clause-first
returns-clause-first c = (bit_at-trailing_zeros w64 c.args.x c.requires c.ranges.x.fits).2
