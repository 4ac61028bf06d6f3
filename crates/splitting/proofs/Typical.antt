-- A word that stands for all words of a set: the first, where the others have alike what it has; or all of them joined, where each is that or 0.
-- Assumes nothing.
use mathlib.Core.List.{List}
use mathlib.Core.Path.{◌≡◌}
use Prim.Native.Nat.{ℕ, ◌+◌, ◌<◌}
use native.Mathlib.Omega.{arith}
use lib.Bits.{bit_or}
use lib.ListN.{get_or}
use Rattle.products.specs.Sets.{bit}
use Rattle.products.proofs.Bits.{bit_or_lem}
use Rattle.splitting.specs.Inside.{Joins, Typical}

pub typical_first : (s : List ℕ) → ((w j k : ℕ) → w < 16 → j < 64 → k < 64 → bit (get_or s 0 0) j ≡ bit (get_or s 0 0) k → bit (get_or s w 0) j ≡ bit (get_or s w 0) k)
    → Typical (get_or s 0 0) s
typical_first s every = record { joins = record { some = λ j k all. all 0 (omega arith) }; every = every }

pub joins_more : {x : ℕ} {s : List ℕ} {w : ℕ} → Joins x s w → Joins (bit_or x (get_or s w 0)) s (w + 1)
joins_more {x} {s} {w} h = record {
  some = λ j k all.
      let before : bit x j ≡ bit x k = h.some j k (λ v l. all v (omega arith)) in
      let here : bit (get_or s w 0) j ≡ bit (get_or s w 0) k = all w (omega arith) in
      omega (arith, bit_or_lem x (get_or s w 0) j, bit_or_lem x (get_or s w 0) k);
}
