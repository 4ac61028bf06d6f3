-- Laws of the bits of a word: of the operations on words, of the words that stand for a feature and for all products of n features, and how
-- many there are. The rule of a word of the code is one computed test over its 64 bits. Assumes nothing.
use mathlib.Core.Path.{◌≡◌, refl, ap, ◌∙◌}
use mathlib.Core.Bool.{Bool, true, false, ◌&&◌}
use mathlib.Core.Logic.{⊎_elim}
use Prim.Native.Nat.{ℕ, zero, suc, ◌+◌, ◌-◌, ◌*◌, ◌/◌, ◌%◌, ◌^◌, ◌<◌, ◌≤◌, min, max}
use native.Mathlib.Omega.{arith}
use native.Mathlib.Numerals.{add-one}
use native.Mathlib.Nat.{eq-or-lt_of_le, pow-suc}
use borrow.Author.Count.{below_none, below_more}
use borrow.Author.Tests.{lt-ltb, le-ltb, ne_eqb}
use lib.Bits.{bit_and, bit_or, bit_xor}
use lib.Count.{ones, ones_step, ones-le}
use lib.Dec.{T, eqb, ltb, eqb→eq, eqb-suc-suc}
use lib.Pow.{pow_mono, field, mod-mod-pow}
use Rattle.std.proofs.Common.{w64}
use Rattle.std.specs.Int.{bit_not}
use Rattle.std.proofs.lemmas.Nat.Bits.{bit_at_and, bit_at_or, bit_at_xor, bit_at_not, bit_at-suc, bit_at-zero, bit_at_above, same_from_bits_below}
use Rattle.products.specs.Sets.{bit, one_if}
use Rattle.products.specs.Orders.{bits}

-- ---- what the operations on words do to each bit

pub bit_and_lem : (x y k : ℕ) → bit (bit_and x y) k ≡ min (bit x k) (bit y k)
bit_and_lem = bit_at_and

pub bit_or_lem : (x y k : ℕ) → bit (bit_or x y) k ≡ max (bit x k) (bit y k)
bit_or_lem = bit_at_or

pub bit_xor_lem : (x y k : ℕ) → bit (bit_xor x y) k ≡ (bit x k + bit y k) % 2
bit_xor_lem = bit_at_xor

pub bit_without : (x y k : ℕ) → bit (bit_xor x (bit_and x y)) k ≡ bit x k - bit y k
bit_without x y k = omega (arith, bit_xor_lem x (bit_and x y) k, bit_and_lem x y k)

-- the same as `&` and `!` of words do it
pub bit_and_not : (x y k : ℕ) → y < 2 ^ 64 → k < 64 → bit (bit_and x (bit_not w64 y)) k ≡ bit x k - bit y k
bit_and_not x y k ly lk = omega (arith, bit_at_and x (bit_not w64 y) k, bit_at_not w64 y k ly lk)

-- ---- words and their bits

-- bit k + 1 of x is bit k of x / 2
pub bit_suc : (x k : ℕ) → bit x (suc k) ≡ bit (x / 2) k
bit_suc = bit_at-suc

-- what is cut off above does not matter
pub cut_bit : (x k m : ℕ) → k < m → bit (x % 2 ^ m) k ≡ bit x k
cut_bit x k m lk =
    let e : m - 1 - k + 1 + k ≡ m = omega arith in
    let a : x % 2 ^ (m - 1 - k + 1 + k) / 2 ^ k ≡ x / 2 ^ k % 2 ^ (m - 1 - k + 1) = field x (m - 1 - k + 1) k in
    let b : x / 2 ^ k % 2 ^ (m - 1 - k + 1) % 2 ^ 1 ≡ x / 2 ^ k % 2 ^ 1 = mod-mod-pow (x / 2 ^ k) (m - 1 - k) 1 in
    ap (λ (n : ℕ). n % 2) (rw e at a) ∙ b

-- words are equal where their bits are
pub eq_bits : (k x y : ℕ) → x < 2 ^ k → y < 2 ^ k → ((j : ℕ) → j < k → bit x j ≡ bit y j) → x ≡ y
eq_bits = same_from_bits_below

-- no bit of 0 is 1
pub zero_bit : (k : ℕ) → bit 0 k ≡ 0
zero_bit = bit_at-zero

-- a word that is not 0 has a bit that is 1
pub some_bit : (n x : ℕ) → x < 2 ^ n → (x ≡ 0 → ⊥) → (k : ℕ) × (k < n) × (bit x k ≡ 1)
some_bit zero x lx ne = absurd (omega arith)
some_bit (suc n) x lx ne =
    let le : x % 2 ≤ 1 = omega arith in
    ⊎_elim
    (λ e. (0, omega arith, omega arith))
    (λ lt. let h = some_bit n (x / 2) (omega (arith, pow-suc 2 n)) (omega arith) in (suc h.0, omega (arith, h.1), bit_suc x h.0 ∙ h.2))
    (eq-or-lt_of_le le)

-- the bits of a power of two: 1 at its exponent alone
pub power_bit : (k q : ℕ) → bit (2 ^ k) q ≡ one_if (eqb k q)
power_bit zero zero = refl
power_bit zero (suc q) = rw (ne_eqb 0 (suc q) (λ e. omega arith)) (bit_suc 1 q ∙ zero_bit q)
power_bit (suc k) zero = rw (ne_eqb (suc k) 0 (λ e. omega arith)) (omega (arith, pow-suc 2 k))
power_bit (suc k) (suc q) =
    let h : 2 ^ suc k / 2 ≡ 2 ^ k = omega (arith, pow-suc 2 k) in
    rw (eqb-suc-suc k q) (bit_suc (2 ^ suc k) q ∙ ap (λ (x : ℕ). bit x q) h ∙ power_bit k q)

-- ---- words of the code

-- the test f passes at each number below n
unfoldable pub passes : (ℕ → Bool) → ℕ → Bool
passes f zero = true
passes f (suc n) = f n && passes f n

and_left : (a b : Bool) → T (a && b) → T a
and_left true b t = tt
and_left false b t = t

and_right : (a b : Bool) → T (a && b) → T b
and_right true b t = t
and_right false b t = absurd t

pub passes_at : (f : ℕ → Bool) (n : ℕ) → T (passes f n) → (k : ℕ) → k < n → T (f k)
unfolding passes
passes_at f zero t k lt = below_none (λ k. T (f k)) k lt
passes_at f (suc n) t k lt =
    below_more (λ k. T (f k)) n (passes_at f n (and_right (f n) (passes f n) t)) (and_left (f n) (passes f n) t) k (rw add-one lt)

-- a word of the code for the number n, whose bits a computed test compares with those that f says
pub word_at : (f : ℕ → ℕ → ℕ) (x n : ℕ) {i : ℕ} → T (passes (λ k. eqb (bit x k) (f n k)) 64) → i ≡ n → (k : ℕ) → k < 64 → bit x k ≡ f i k
word_at f x n test e k lk = rw e (eqb→eq (bit x k) (f n k) (passes_at (λ k. eqb (bit x k) (f n k)) 64 test k lk))

-- every bit of the full word is 1
pub ones_bit : (k : ℕ) → k < 64 → bit 0xffff_ffff_ffff_ffff k ≡ 1
unfolding passes
ones_bit = word_at (λ n k. 1) 0xffff_ffff_ffff_ffff 0 tt refl

-- ---- the words of a feature's set

-- a mask has the numbers that have bit n
pub mask_bit : (x n : ℕ) {i : ℕ} → T (passes (λ k. eqb (bit x k) (bit k n)) 64) → i ≡ n → (k : ℕ) → k < 64 → bit x k ≡ bit k i
mask_bit = word_at (λ i k. bit k i)

-- no number below 2 ^ j has a bit from j on
pub past_bit : (j i : ℕ) → j ≤ i → (k : ℕ) → k < 2 ^ j → bit k i ≡ 0
past_bit j i le k lk = bit_at_above k j i lk le

-- below 6 a product's bit is that of its place in its word
pub low_bits : (w k i : ℕ) → i < 6 → bit (w * 64 + k) i ≡ bit k i
low_bits w k =
    let P : ℕ → Type 0 = λ i. bit (w * 64 + k) i ≡ bit k i in
    below_more P 5 (below_more P 4 (below_more P 3 (below_more P 2 (below_more P 1 (below_more P 0 (below_none P)
    (omega arith)) (omega arith)) (omega arith)) (omega arith)) (omega arith)) (omega arith)

-- ---- the words of all products of n features

-- a first word has the numbers below 2 ^ m
pub first_bit : (x m : ℕ) {n : ℕ} → T (passes (λ k. eqb (bit x k) (one_if (ltb k (2 ^ m)))) 64) → n ≡ m → (k : ℕ) → k < 64 → bit x k ≡ one_if (ltb k (2 ^ n))
first_bit = word_at (λ n k. one_if (ltb k (2 ^ n)))

-- from j features on every number below 2 ^ j is a product
pub all_below : (j n : ℕ) → j ≤ n → (k : ℕ) → k < 2 ^ j → one_if (ltb k (2 ^ n)) ≡ 1
all_below j n le k lk = rw (lt-ltb k (2 ^ n) (omega (arith, pow_mono {i = j} {j = n} le)))

-- up to j features no number from 2 ^ j on is one
pub none_past : (j n : ℕ) → n ≤ j → (k : ℕ) → 2 ^ j ≤ k → one_if (ltb k (2 ^ n)) ≡ 0
none_past j n le k lk = rw (le-ltb k (2 ^ n) (omega (arith, pow_mono {i = n} {j = j} le)))

-- ---- how many bits of a word are 1

bits_front : (x k : ℕ) → bits x (suc k) ≡ x % 2 + bits (x / 2) k
unfolding bits
bits_front x zero = let e : x / 2 ^ 0 ≡ x = omega arith in omega (arith, ap (λ (n : ℕ). n % 2) e)
bits_front x (suc k) = omega (arith, bits_front x k, bit_suc x k)

-- what `count_ones` answers is the sum of the bits
pub ones_bits : (k x : ℕ) → x < 2 ^ k → ones x ≡ bits x k
unfolding bits
ones_bits zero x lt = omega (arith, ones-le 0 x lt)
ones_bits (suc k) x lt = omega (arith, ones_step x, bits_front x k, ones_bits k (x / 2) (omega (arith, pow-suc 2 k)))
