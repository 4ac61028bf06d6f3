-- Eight bytes in one number, and the first of them that is a given byte. The number is taken apart from its lowest byte on: a byte that is passed
-- leaves eight zeros, and the first that is found leaves a high bit with seven zeros below, whatever stands above. Assumes nothing.
use Rattle.std.proofs.Common.{◌≡◌, ℕ, zero, suc, ◌+◌, ◌-◌, ◌*◌, ◌/◌, ◌%◌, ◌^◌, ◌<◌, ◌≤◌, sym, refl, ap, ◌∙◌, ap₂, suc-le-suc, suc-add, pow-suc, div-add-mod', zero-add, mul-one, arith, bit_and, bit_xor}
use native.Mathlib.Nat.{one-le-pow}
use lib.Arith.{mod-mul}
use lib.Bits.{and_block, xor_block, xor_lt, and_le_l, and_le_r, and_mask, and_comm, and_shifted, xor_add_and, xor_self, shifted_even, shifted_half, block_half, block_odd}
use lib.Count.{count_trailing_zeros, under}
use Rattle.fields.specs.Inside.{word, Digits, FirstOf}

-- ---- the zeros below the lowest bit

zeros_shifted : (j k a : ℕ) → count_trailing_zeros (j + k) (a * 2 ^ j) ≡ j + count_trailing_zeros k a
unfolding count_trailing_zeros
zeros_shifted zero k a = rw (zero-add k, zero-add (count_trailing_zeros k a), mul-one)
zeros_shifted (suc j) k a =
    rw (suc-add j k, suc-add j (count_trailing_zeros k a)) (ap (λ (r : ℕ). under r (count_trailing_zeros (j + k) (a * 2 ^ suc j / 2))) (shifted_even a j)
    ∙ ap (λ (x : ℕ). suc (count_trailing_zeros (j + k) x)) (shifted_half a j) ∙ ap suc (zeros_shifted j k a))

zeros_odd : (k a : ℕ) → count_trailing_zeros (suc k) (a * 2 + 1) ≡ 0
unfolding count_trailing_zeros
zeros_odd k a = let e : (a * 2 + 1) % 2 ≡ 1 = omega arith in rw e refl

-- a number that is not 0 has a lowest bit
pub zeros_some : (k n : ℕ) → (n ≡ 0 → ⊥) → n < 2 ^ k → count_trailing_zeros k n < k
unfolding count_trailing_zeros
zeros_some zero n ne l = absurd (ne (omega arith))
zeros_some (suc k) n ne l = go (n % 2) refl (zeros_some k (n / 2))
  where
    go : (r : ℕ) → n % 2 ≡ r → ((n / 2 ≡ 0 → ⊥) → n / 2 < 2 ^ k → count_trailing_zeros k (n / 2) < k) → under r (count_trailing_zeros k (n / 2)) < suc k
    go zero e more = suc-le-suc (more (λ h. ne (omega arith)) (omega (arith, pow-suc 2 k)))
    go (suc r) e more = omega arith

-- where the lowest j digits are not all 0, the lowest bit is among them
zeros_low : (j k a b : ℕ) → (b ≡ 0 → ⊥) → b < 2 ^ j → count_trailing_zeros (j + k) (a * 2 ^ j + b) < j
unfolding count_trailing_zeros
zeros_low zero k a b ne l = absurd (ne (omega arith))
zeros_low (suc j) k a b ne l =
    let rest : (a * 2 ^ suc j + b) / 2 ≡ a * 2 ^ j + b / 2 = block_half a j b in
    let low : (a * 2 ^ suc j + b) % 2 ≡ b % 2 = block_odd a j b in
    rw (suc-add j k, rest, low) (go (b % 2) refl (zeros_low j k a (b / 2)))
  where
    go : (r : ℕ) → b % 2 ≡ r → ((b / 2 ≡ 0 → ⊥) → b / 2 < 2 ^ j → count_trailing_zeros (j + k) (a * 2 ^ j + b / 2) < j)
        → under r (count_trailing_zeros (j + k) (a * 2 ^ j + b / 2)) < suc j
    go zero e more = suc-le-suc (more (λ h. ne (omega arith)) (omega (arith, pow-suc 2 j)))
    go (suc r) e more = omega arith

-- of n + 1 bytes the lowest has only its high bit, or is 0
zeros_marked : (n a : ℕ) → count_trailing_zeros (suc n * 8) (a * 256 + 128) ≡ 7
zeros_marked n a =
    let w : suc n * 8 ≡ 7 + suc (n * 8) = omega arith in
    let e : a * 256 + 128 ≡ (a * 2 + 1) * 2 ^ 7 = omega arith in
    rw (w, e) (zeros_shifted 7 (suc (n * 8)) (a * 2 + 1) ∙ ap (λ (x : ℕ). 7 + x) (zeros_odd (n * 8) a))

zeros_passed : (n a : ℕ) → count_trailing_zeros (suc n * 8) (a * 256 + 0) ≡ 8 + count_trailing_zeros (n * 8) a
zeros_passed n a =
    let w : suc n * 8 ≡ 8 + n * 8 = omega arith in
    let e : a * 256 + 0 ≡ a * 2 ^ 8 = omega arith in
    rw (w, e) (zeros_shifted 8 (n * 8) a)

-- ---- the first byte that is 0

first_here : {f : ℕ → ℕ} {m n : ℕ} → f 0 ≡ m → FirstOf f m (suc n) 0
first_here e = record { high = omega arith; clear = λ k l. absurd (omega arith); here = λ l. e }

first_next : {f : ℕ → ℕ} {m n r : ℕ} → (f 0 ≡ m → ⊥) → FirstOf (λ k. f (suc k)) m n r → FirstOf f m (suc n) (suc r)
first_next {f} {m} {r = r} ne x = record { high = let h = x.high in omega arith; clear = clear; here = λ l. x.here (omega arith) }
  where
    clear : (k : ℕ) → k < suc r → f k ≡ m → ⊥
    clear zero l = ne
    clear (suc k) l = x.clear k (omega arith)

-- a byte that is not 0 leaves no high bit
passed_byte : (b : ℕ) → b < 255 → bit_and (bit_and b (bit_xor (suc b) 255)) 128 ≡ 0
passed_byte b l =
    let x = bit_and b (bit_xor (suc b) 255) in
    let turned : bit_xor (suc b) 255 ≡ 255 - suc b = omega (arith, xor_add_and (suc b) 255, and_mask (suc b) 8) in
    and_comm x 128 ∙ and_shifted 1 7 x (omega (arith, and_le_l b (bit_xor (suc b) 255), and_le_r b (bit_xor (suc b) 255)))

-- what the code makes of the n bytes d, where y is their number less the number of n ones
unfoldable marks : (y n : ℕ) (d : ℕ → ℕ) → ℕ
marks y n d = bit_and (bit_and y (bit_xor (word d n) (word (λ k. 255) n))) (word (λ k. 128) n)

marks_step : (y n : ℕ) (d : ℕ → ℕ) → d 0 < 256 → marks y (suc n) d ≡ marks (y / 256) n (λ k. d (suc k)) * 256 + bit_and (bit_and (y % 256) (bit_xor (d 0) 255)) 128
unfolding marks
marks_step y n d l =
    let x = bit_xor (word (λ k. d (suc k)) n) (word (λ k. 255) n) in
    let h = word (λ k. 128) n in
    let low : y % 256 < 256 = omega arith in
    let lx : bit_xor (d 0) 255 < 256 = xor_lt 8 (d 0) 255 l (omega arith) in
    ap (λ (v : ℕ). bit_and (bit_and y v) (h * 256 + 128)) (xor_block 8 (word (λ k. d (suc k)) n) (word (λ k. 255) n) (d 0) 255 l (omega arith))
    ∙ ap (λ (v : ℕ). bit_and (bit_and v (x * 256 + bit_xor (d 0) 255)) (h * 256 + 128)) (sym (div-add-mod' y 256))
    ∙ ap (λ (v : ℕ). bit_and v (h * 256 + 128)) (and_block 8 (y / 256) x (y % 256) (bit_xor (d 0) 255) low lx)
    ∙ and_block 8 (bit_and (y / 256) x) h (bit_and (y % 256) (bit_xor (d 0) 255)) 128 (omega (arith, and_le_l (y % 256) (bit_xor (d 0) 255))) (omega arith)

-- a sum that wraps, taken apart at the lowest byte
lowest : (n y o x b : ℕ) → b < 256 → (y + (o * 256 + 1)) % 256 ^ suc n ≡ x * 256 + b → ((y + (o * 256 + 1)) / 256 % 256 ^ n ≡ x) × ((y + 1) % 256 ≡ b)
lowest n y o x b l e =
    let parts = mod-mul (y + (o * 256 + 1)) {m = 256 ^ n} {c = 256} (one-le-pow n 256 (omega arith)) (omega arith) in
    let whole = ap (λ (p : ℕ). (y + (o * 256 + 1)) % p) (pow-suc 256 n) in
    (omega arith, omega arith)

first_zero : (n : ℕ) (d : ℕ → ℕ) (y : ℕ) → ((k : ℕ) → d k < 256) → (y + word (λ k. 1) n) % 256 ^ n ≡ word d n → FirstOf d 0 n (count_trailing_zeros (n * 8) (marks y n d) / 8)
unfolding count_trailing_zeros
first_zero zero d y l e = record { high = omega arith; clear = λ k l. absurd (omega arith); here = λ l. absurd (omega arith) }
first_zero (suc n) d y l e =
    rw (marks_step y n d (l 0)) (go (d 0) refl (lowest n y (word (λ k. 1) n) (word (λ k. d (suc k)) n) (d 0) (l 0) e)
    (first_zero n (λ k. d (suc k)) (y / 256) (λ k. l (suc k))))
  where
    ones : ℕ
    ones = word (λ k. 1) n

    rest : ℕ
    rest = marks (y / 256) n (λ k. d (suc k))

    go : (b : ℕ) → d 0 ≡ b → ((y + (ones * 256 + 1)) / 256 % 256 ^ n ≡ word (λ k. d (suc k)) n) × ((y + 1) % 256 ≡ b)
        → ((y / 256 + ones) % 256 ^ n ≡ word (λ k. d (suc k)) n → FirstOf (λ k. d (suc k)) 0 n (count_trailing_zeros (n * 8) rest / 8))
        → FirstOf d 0 (suc n) (count_trailing_zeros (suc n * 8) (rest * 256 + bit_and (bit_and (y % 256) (bit_xor b 255)) 128) / 8)
    go zero z p later = let full : y % 256 ≡ 255 = omega arith in rw (full, zeros_marked n rest) (first_here z)
    go (suc b) z p later =
        let low : y % 256 ≡ b = omega arith in
        let high : (y + (ones * 256 + 1)) / 256 ≡ y / 256 + ones = omega arith in
        let e : (8 + count_trailing_zeros (n * 8) rest) / 8 ≡ suc (count_trailing_zeros (n * 8) rest / 8) = omega arith in
        rw (low, passed_byte b (omega arith), zeros_passed n rest, e) (first_next (λ h. omega arith) (later (rw high at p.0)))

-- ---- bytes compared all at once

word_xor : (n : ℕ) (f g : ℕ → ℕ) → ((k : ℕ) → f k < 256) → ((k : ℕ) → g k < 256) → bit_xor (word f n) (word g n) ≡ word (λ k. bit_xor (f k) (g k)) n
word_xor zero f g lf lg = refl
word_xor (suc n) f g lf lg =
    xor_block 8 (word (λ k. f (suc k)) n) (word (λ k. g (suc k)) n) (f 0) (g 0) (lf 0) (lg 0)
    ∙ ap (λ (x : ℕ). x * 256 + bit_xor (f 0) (g 0)) (word_xor n (λ k. f (suc k)) (λ k. g (suc k)) (λ k. lf (suc k)) (λ k. lg (suc k)))

same_byte : (b m : ℕ) → bit_xor b m ≡ 0 → b ≡ m
same_byte b m e = omega (arith, xor_add_and b m, and_le_l b m, and_le_r b m)

-- ---- the bytes below the lowest bit are 0

bytes_below : (n : ℕ) (d : ℕ → ℕ) → ((k : ℕ) → d k < 256) → (k : ℕ) → k < count_trailing_zeros (n * 8) (word d n) / 8 → d k ≡ 0
unfolding count_trailing_zeros
bytes_below zero d l k h = absurd (omega arith)
bytes_below (suc n) d l k h = go (d 0) refl k h (bytes_below n (λ j. d (suc j)) (λ j. l (suc j)))
  where
    rest : ℕ
    rest = word (λ j. d (suc j)) n

    go : (b : ℕ) → d 0 ≡ b → (k : ℕ) → k < count_trailing_zeros (suc n * 8) (rest * 256 + d 0) / 8 → ((j : ℕ) → j < count_trailing_zeros (n * 8) rest / 8 → d (suc j) ≡ 0)
        → d k ≡ 0
    go zero e zero h later = e
    go zero e (suc k) h later =
        let z : count_trailing_zeros (suc n * 8) (rest * 256 + d 0) ≡ 8 + count_trailing_zeros (n * 8) rest = rw e (zeros_passed n rest) in
        later k (omega arith)
    go (suc b) e k h later =
        let w : suc n * 8 ≡ 8 + n * 8 = omega arith in
        let low : count_trailing_zeros (suc n * 8) (rest * 256 + d 0) < 8 = rw w (zeros_low 8 (n * 8) rest (d 0) (λ z. omega arith) (l 0)) in
        absurd (omega arith)

-- two numbers have the same bytes below the lowest bit in which they differ
pub digits_below : {f g : ℕ → ℕ} {w v : ℕ} → Digits f w → Digits g v → (k : ℕ) → k < count_trailing_zeros 64 (bit_xor w v) / 8 → f k ≡ g k
digits_below {f} {g} {w} {v} d b k h =
    let x : bit_xor w v ≡ word (λ j. bit_xor (f j) (g j)) 8 = ap₂ bit_xor d.whole b.whole ∙ word_xor 8 f g d.small b.small in
    same_byte (f k) (g k) (bytes_below 8 (λ j. bit_xor (f j) (g j)) (λ j. xor_lt 8 (f j) (g j) (d.small j) (b.small j)) k (rw x at h))

-- ---- the first byte that is m

word_below : (n : ℕ) (f : ℕ → ℕ) → ((k : ℕ) → f k < 256) → word f n < 256 ^ n
word_below zero f l = omega arith
word_below (suc n) f l = omega (arith, l 0, pow-suc 256 n, word_below n (λ k. f (suc k)) (λ k. l (suc k)))

-- what a word less n and its complement are
turned : (x n : ℕ) → x < 2 ^ 64 → n ≤ 2 ^ 64 → ((x + (2 ^ 64 - n)) % 2 ^ 64 + n) % 2 ^ 64 ≡ x
turned x n l h = omega arith

complement : (x : ℕ) → x < 2 ^ 64 → bit_xor x (2 ^ 64 - 1) ≡ 2 ^ 64 - 1 - x
complement x l = omega (arith, xor_add_and x (2 ^ 64 - 1), and_mask x 64)

pub first_marked : {f : ℕ → ℕ} {w v m : ℕ} → Digits f w → v ≡ m → m < 256
    → (let x = bit_xor w (v * 0x0101_0101_0101_0101) in
    FirstOf f m 8 (count_trailing_zeros 64 (bit_and (bit_and ((x + (2 ^ 64 - 0x0101_0101_0101_0101)) % 2 ^ 64) (2 ^ 64 - 1 - x)) 0x8080_8080_8080_8080) / 8))
unfolding marks
first_marked {f} {w} {v} {m} d same small =
    let l : v < 256 = omega arith in
    let all : v * 0x0101_0101_0101_0101 ≡ word (λ k. v) 8 = omega arith in
    let x : bit_xor w (v * 0x0101_0101_0101_0101) ≡ word (λ k. bit_xor (f k) v) 8 = ap₂ bit_xor d.whole all ∙ word_xor 8 f (λ k. v) d.small (λ k. l) in
    let digits : (k : ℕ) → bit_xor (f k) v < 256 = λ k. xor_lt 8 (f k) v (d.small k) l in
    let low : word (λ k. bit_xor (f k) v) 8 < 2 ^ 64 = word_below 8 (λ k. bit_xor (f k) v) digits in
    let first = first_zero 8 (λ k. bit_xor (f k) v) _ digits (turned (word (λ k. bit_xor (f k) v) 8) 0x0101_0101_0101_0101 low (omega arith)) in
    rw (x, ← complement (word (λ k. bit_xor (f k) v) 8) low, ← same) (record {
      high = first.high;
      clear = λ k b h. first.clear k b (ap (λ (u : ℕ). bit_xor u v) h ∙ xor_self v);
      here = λ b. same_byte _ v (first.here b);
    })
