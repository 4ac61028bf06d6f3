-- `word_splits` meets its contract. The loop's invariant: the words so far. Assumes nothing.
use mathlib.Core.Path.{◌≡◌}
use Prim.Native.Nat.{◌*◌, ◌≤◌}
use lib.ListN.{length}
use Rattle.splitting.specs.Inside.{Widened}
use Rattle.splitting.proofs.length.word_splits.Given as goal

abbrev pub invariant-loop-w : goal.invariant-loop-w
invariant-loop-w l = (l.w ≤ l.h) × (l.k ≤ l.w * 64) × (length l.initial.met ≡ 16 → Widened l.h l.table l.initial.met l.met l.w l.k)
