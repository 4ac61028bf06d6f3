-- `piece`. What `get` gives is the part, or nothing where s has no such part. Assumes nothing.
use Rattle.std.proofs.Common.{◌≡◌, ℕ, List, [], Option, Some, None, inl, inr, refl, Bor, le-leb, leb, length}
use Rattle.std.specs.Option.{unwrap_or}
use Rattle.std.specs.Slice.{IsGetRangeResult}
use mathlib.Core.Bool.{and-false}
use borrow.Author.Tests.{lt-leb}
use Rattle.fields.specs.Bytes.{part, piece_of}
use Rattle.fields.proofs.piece.Goals as goal

given : (s : List ℕ) (a e : ℕ) (none : Bor (List ℕ)) (r : Option (Bor (List ℕ))) → none.now ≡ [] → IsGetRangeResult s a e r → (unwrap_or r none).now ≡ piece_of s a e
unfolding piece_of part
given s a e none None z (inl h, g) = rw (lt-leb a e h) z
given s a e none None z (inr h, g) = rw (lt-leb e (length s) h, and-false (leb a e)) z
given s a e none (Some x) z ((low, high, same, l), g) = rw (le-leb a e low, le-leb e (length s) high) same

pub returns : goal.returns
returns c = rw c.unwrap_or.ensures (given _ _ _ _ c.get.result refl c.get.ensures.lookup)
