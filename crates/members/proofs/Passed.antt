-- The search for a product, the smallest or any: what is known of the words that it passed, how that grows by a word, and what it says where the
-- search ends. Assumes nothing.
use Rattle.std.proofs.Common.{◌≡◌, List, ℕ, ◌+◌, ◌*◌, ◌/◌, ◌%◌, ◌^◌, ◌<◌, ◌≤◌, get_or, ◌∙◌, arith}
use native.Mathlib.Decide.{dec_lt}
use Rattle.products.specs.Sets.{bit, has, Picked, Least}
use Rattle.products.proofs.Bits.{zero_bit, some_bit}
use Rattle.products.proofs.Laws.{has_at}

-- no product of the first w words is picked
pub record Passed (y : ℕ) (a b : List ℕ) (w : ℕ) : Type 0 where
  pub none : (q : ℕ) → q < w * 64 → Picked y a b q → ⊥

-- x is what word w of a and b picks
module _ {y : ℕ} {a b : List ℕ} {w : ℕ} (x : ℕ)
    (on : (k : ℕ) → (bit x k ≡ 1 → (bit (get_or a w 0) k ≡ 1) × (bit (get_or b w 0) k ≡ y)) × (bit (get_or a w 0) k ≡ 1 → bit (get_or b w 0) k ≡ y → bit x k ≡ 1)) where
  -- a product of the word is a bit
  pub shown : (q : ℕ) → Picked y a b q → q / 64 ≡ w → bit x (q % 64) ≡ 1
  unfolding has
  shown q i z = (on (q % 64)).1 (rw z at i.first.is) (rw z at i.second)

  -- a bit is a product
  picked_at : {k : ℕ} → w < 16 → k < 64 → bit x k ≡ 1 → Picked y a b (w * 64 + k)
  picked_at {k} lw lk e =
      record { first = record { small = omega arith; is = has_at a w k lk ∙ ((on k).0 e).0 }; second = has_at b w k lk ∙ ((on k).0 e).1 }

  -- the lowest bit is the smallest product
  pub least_at : {k : ℕ} → Passed y a b w → w < 16 → k < 64 → bit x k ≡ 1 → ((j : ℕ) → j < k → bit x j ≡ 0) → Least ◌≤◌ (Picked y a b) (w * 64 + k)
  least_at {k} h lw lk e low = record { is = picked_at lw lk e; first = λ q i. before q i (dec_lt q (w * 64)) (dec_lt q (w * 64 + k)) }
    where
      before : (q : ℕ) → Picked y a b q → Dec (q < w * 64) → Dec (q < w * 64 + k) → w * 64 + k ≤ q
      before q i (yes l) d = absurd (h.none q l i)
      before q i (no n) (yes l) = omega (arith, shown q i (omega arith), low (q % 64) (omega arith))
      before q i (no n) (no m) = omega arith

  -- a word that is not 0 has a product
  pub some_at : w < 16 → x < 2 ^ 64 → (x ≡ 0 → ⊥) → (q : ℕ) × Picked y a b q
  some_at lw lx ne = let h = some_bit 64 x lx ne in (w * 64 + h.0, picked_at lw h.1 h.2)

  -- a word that is 0
  pub passed_word : Passed y a b w → x ≡ 0 → Passed y a b (w + 1)
  passed_word h e = record { none = λ q l i. other q l i (dec_lt q (w * 64)) }
    where
      other : (q : ℕ) → q < (w + 1) * 64 → Picked y a b q → Dec (q < w * 64) → ⊥
      other q l i (yes m) = h.none q m i
      other q l i (no n) = let o = shown q i (omega arith) in omega (arith, zero_bit (q % 64), rw e at o)
