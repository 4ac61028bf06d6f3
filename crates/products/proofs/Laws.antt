-- Laws of sets of products, for those who use them: what membership and counts are, whatever the set, and what a search found. Assumes nothing.
use Rattle.std.proofs.Common.{Option, Some, None}
use mathlib.Core.Path.{◌≡◌, refl, sym, subst, ◌∙◌}
use mathlib.Core.List.{List, [], ◌∷◌}
use mathlib.Core.Bool.{Bool, true, false}
use Prim.Native.Nat.{ℕ, zero, suc, ◌+◌, ◌*◌, ◌/◌, ◌%◌, ◌^◌, ◌<◌, ◌≤◌}
use native.Mathlib.Omega.{arith}
use native.Mathlib.Numerals.{add-one}
use native.Mathlib.Nat.{add-zero}
use lib.Count.{ones}
use lib.ListN.{length, get_or, replicate, get_or-replicate}
use lib.Seq.{ext_get_or}
use Rattle.products.specs.Sets.{bit, has, one_if, In, Least, Finds, count_to, Words}
use Rattle.products.specs.Orders.{bits}
use Rattle.products.proofs.Bits.{eq_bits, zero_bit, ones_bit, ones_bits}

-- membership is 0 or 1
pub has_le : (s : List ℕ) (p : ℕ) → has s p ≤ 1
unfolding has
has_le s p = omega arith

-- product w * 64 + b is bit b of word w
pub has_at : (s : List ℕ) (w b : ℕ) → b < 64 → has s (w * 64 + b) ≡ bit (get_or s w 0) b
unfolding has
has_at s w b lt =
    let i : (w * 64 + b) / 64 ≡ w = omega arith in
    let j : (w * 64 + b) % 64 ≡ b = omega arith in
    rw (i, j)

-- two sets with the same members are the same words
pub same_members : {a b : List ℕ} → Words a → Words b → ((p : ℕ) → p < 1024 → has a p ≡ has b p) → a ≡ b
same_members {a} {b} wa wb h =
    ext_get_or 0 a b (wa.long ∙ sym wb.long)
    (λ w lw. let lt : w < 16 = omega (arith, wa.long) in
    eq_bits 64 (get_or a w 0) (get_or b w 0) (wa.word w) (wb.word w)
    (λ k lk. sym (has_at a w k lk) ∙ h (w * 64 + k) (omega arith) ∙ has_at b w k lk))

-- no words, no product
pub nothing_has : (p : ℕ) → has [] p ≡ 0
unfolding has
nothing_has p = zero_bit (p % 64)

-- of a table of sets only those that have a row have a product
pub has_row : (sets : List (List ℕ)) (q : ℕ) {p : ℕ} → In (get_or sets q []) p → q < length sets
has_row [] q {p} i = absurd (omega (arith, i.is, nothing_has p))
has_row (s ∷ sets) zero i = omega arith
has_row (s ∷ sets) (suc q) i = let l = has_row sets q i in omega arith

-- the set `[0; 16]` has no product
pub empty_has : (p : ℕ) → has (replicate 16 0) p ≡ 0
unfolding has
empty_has p = rw (zeros 16 (p / 64)) (zero_bit (p % 64))
  where
    zeros : (n k : ℕ) → ◌≡◌ {A = ℕ} (get_or (replicate n 0) k 0) 0
    zeros zero k = refl
    zeros (suc n) zero = refl
    zeros (suc n) (suc k) = zeros n k

-- the set `[0xffff_ffff_ffff_ffff; 16]` has every product
pub full_has : (p : ℕ) → p < 1024 → has (replicate 16 0xffff_ffff_ffff_ffff) p ≡ 1
unfolding has
full_has p lt = rw (get_or-replicate {A = ℕ} 16 (p / 64) 0xffff_ffff_ffff_ffff 0 (omega arith)) (ones_bit (p % 64) (omega arith))

-- the count up to p + 1 is the count up to p, and one more where the set has p
pub count_more : (s : List ℕ) (p : ℕ) → count_to s (p + 1) ≡ count_to s p + has s p
unfolding count_to
count_more s p = rw add-one

-- no set has more than n of n products
pub count_le : (s : List ℕ) (n : ℕ) → count_to s n ≤ n
unfolding count_to
count_le s zero = omega arith
count_le s (suc n) = omega (arith, count_le s n, has_le s n)

-- the count up to bit k of word w
pub count_bits : (s : List ℕ) (w k : ℕ) → k ≤ 64 → count_to s (w * 64 + k) ≡ count_to s (w * 64) + bits (get_or s w 0) k
unfolding bits
count_bits s w zero le = rw (add-zero (w * 64)) (omega arith)
count_bits s w (suc k) le =
    let e : w * 64 + suc k ≡ w * 64 + k + 1 = omega arith in
    rw e (omega (arith, count_more s (w * 64 + k), count_bits s w k (omega arith), has_at s w k le))

-- the count by whole words
pub count_word : (s : List ℕ) (w : ℕ) → get_or s w 0 < 2 ^ 64 → count_to s ((w + 1) * 64) ≡ count_to s (w * 64) + ones (get_or s w 0)
count_word s w lt =
    let e : (w + 1) * 64 ≡ w * 64 + 64 = omega arith in
    rw e (omega (arith, count_bits s w 64 (omega arith), ones_bits 64 (get_or s w 0) lt))

pub one_true : (b : Bool) → one_if b ≡ 1 → b ≡ true
one_true true e = refl
one_true false e = absurd (omega arith)

-- a search's answer, once its case is known
module _ (R : ℕ → ℕ → Type 0) (P : ℕ → Type 0) {f : Option ℕ} (l : Finds R P f) where
  pub found_at : {p : ℕ} → f ≡ Some p → Least R P p
  found_at e = subst (Finds R P) e l

  pub found_none : f ≡ None → (p : ℕ) → P p → ⊥
  found_none e = subst (Finds R P) e l
