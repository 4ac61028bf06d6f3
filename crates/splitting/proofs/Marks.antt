-- The table that tells on which features a set depends, word by word: what the operations on words do to the bits that are 0, how the features behind
-- one are brought together, and how six levels are laid in one word. Assumes nothing.
use mathlib.Core.Path.{◌≡◌, refl, sym, ap, ap₂, ◌∙◌}
use mathlib.Core.List.{List, [], ◌∷◌}
use mathlib.Core.Bool.{Bool, true, false, ◌&&◌}
use Prim.Native.Nat.{ℕ, zero, suc, ◌+◌, ◌-◌, ◌*◌, ◌/◌, ◌%◌, ◌^◌, ◌<◌, ◌≤◌, max}
use native.Mathlib.Omega.{arith}
use native.Mathlib.Decide.{dec_lt}
use native.Mathlib.Numerals.{add-one}
use native.Mathlib.Nat.{mul_assoc, mul_left_comm, mul-le-mul_right, mod-lt, pow-succ', add-mul}
use borrow.Author.Count.{below_none, below_more}
use borrow.Author.Tests.{eqb-true, eqb-false, eq-eqb, ne_eqb}
use lib.Bits.{bit_or, bit_xor}
use lib.Dec.{eqb}
use lib.ListN.{get_or, length}
use lib.Pow.{pow-add, pow-lt, pow_mono, pow_pos, shr-shr, high, low}
use Rattle.products.specs.Sets.{bit, has}
use Rattle.products.proofs.Bits.{bit_or_lem, bit_xor_lem, zero_bit, cut_bit}
use Rattle.products.proofs.Laws.{has_at}
use Rattle.splitting.specs.Splitting.{in_set, alike, all}
use Rattle.splitting.specs.Inside.{free_of, Word, Level, Typical}
use Rattle.splitting.proofs.Laws.{bool_ext, alike_eq, eq_alike, all_at, all_true, all_ext}

-- ---- numbers

pub two_pow : (i : ℕ) → 2 * 2 ^ i ≡ 2 ^ suc i
two_pow i = sym (pow-succ' 2 i)

twice : (q x : ℕ) → 2 * q * x ≡ q * (2 * x)
twice q x = mul_assoc 2 q x ∙ mul_left_comm 2 q x

-- the numbers from c on in steps of 2 ^ i, by twos
pub even_stride : (c q i : ℕ) → c + 2 * q * 2 ^ i ≡ c + q * 2 ^ suc i
even_stride c q i = ap (λ (x : ℕ). c + x) (twice q (2 ^ i) ∙ ap (λ (x : ℕ). q * x) (two_pow i))

pub odd_stride : (c q i : ℕ) → c + (2 * q + 1) * 2 ^ i ≡ c + q * 2 ^ suc i + 2 ^ i
odd_stride c q i = omega (arith, add-mul (2 * q) 1 (2 ^ i), even_stride c q i)

-- the code's `1 << i`
abbrev pub step : ℕ → ℕ
step i = 1 * 2 ^ i % 2 ^ 64

pub step_is : (i : ℕ) → i < 10 → step i ≡ 2 ^ i
unfolding all
step_is i li = eqb-true (step i) (2 ^ i) (all_at (λ i. eqb (step i) (2 ^ i)) 10 refl i li)

pub step_small : (i : ℕ) → i < 6 → step i < 64
step_small i li = omega (arith, step_is i (omega arith), pow-lt {i = i} {j = 6} li)

-- ---- bits that are 0

abbrev clear : ℕ → ℕ → Bool
clear x k = eqb (bit x k) 0

bit_le : (x k : ℕ) → bit x k ≤ 1
bit_le x k = omega arith

both_zero : (a b : ℕ) → eqb (max a b) 0 ≡ (eqb a 0 && eqb b 0)
both_zero a b = go (eqb a 0) refl
  where
    go : (t : Bool) → eqb a 0 ≡ t → eqb (max a b) 0 ≡ (t && eqb b 0)
    go true e = let m : max a b ≡ b = omega (arith, eqb-true a 0 e) in ap (λ (n : ℕ). eqb n 0) m
    go false e = ne_eqb (max a b) 0 (λ z. eqb-false a 0 e (omega arith))

clear_or : (x y k : ℕ) → clear (bit_or x y) k ≡ (clear x k && clear y k)
clear_or x y k = ap (λ (n : ℕ). eqb n 0) (bit_or_lem x y k) ∙ both_zero (bit x k) (bit y k)

clear_xor : (x y k : ℕ) → clear (bit_xor x y) k ≡ eqb (bit x k) (bit y k)
clear_xor x y k =
    ap (λ (n : ℕ). eqb n 0) (bit_xor_lem x y k)
    ∙ bool_ext (eqb ((bit x k + bit y k) % 2) 0) (eqb (bit x k) (bit y k))
    (λ e. eq-eqb (bit x k) (bit y k) (omega (arith, eqb-true ((bit x k + bit y k) % 2) 0 e)))
    (λ e. eq-eqb ((bit x k + bit y k) % 2) 0 (omega (arith, eqb-true (bit x k) (bit y k) e)))

-- membership is 0 or 1, so a test tells it
pub told : (a b : ℕ) → a ≤ 1 → b ≤ 1 → eqb a 1 ≡ eqb b 1 → a ≡ b
told a b la lb e = go (eqb b 1) refl
  where
    go : (t : Bool) → eqb b 1 ≡ t → a ≡ b
    go true h = omega (arith, eqb-true a 1 (e ∙ h), eqb-true b 1 h)
    go false h =
        let x : (a ≡ 1 → ⊥) = eqb-false a 1 (e ∙ h) in
        let y : (b ≡ 1 → ⊥) = eqb-false b 1 h in
        omega arith

alike_of : (a b : ℕ) → a ≤ 1 → b ≤ 1 → eqb a b ≡ alike (eqb b 1) (eqb a 1)
alike_of a b la lb =
    bool_ext (eqb a b) (alike (eqb b 1) (eqb a 1))
    (λ e. eq_alike (eqb b 1) (eqb a 1) (ap (λ (n : ℕ). eqb n 1) (sym (eqb-true a b e))))
    (λ e. eq-eqb a b (sym (told b a lb la (alike_eq (eqb b 1) (eqb a 1) e))))

-- a test that a bit is 0 says that it is not 1
pub marked_clear : (a : ℕ) → a ≤ 1 → eqb a 1 ≡ false → eqb a 0 ≡ true
marked_clear a le e = let ne : (a ≡ 1 → ⊥) = eqb-false a 1 e in eq-eqb a 0 (omega arith)

pub marked_set : (a : ℕ) → eqb a 1 ≡ true → eqb a 0 ≡ false
marked_set a e = ne_eqb a 0 (λ z. omega (arith, eqb-true a 1 e))

-- down by t
pub shr_bit : (x t k : ℕ) → bit (x / 2 ^ t) k ≡ bit x (t + k)
shr_bit x t k = ap (λ (n : ℕ). n % 2) (shr-shr x t k)

-- ---- all of twice as many

and_swap : (a b x y : Bool) → (((a && b) && x) && y) ≡ ((a && x) && (b && y))
and_swap true true x y = refl
and_swap true false true y = refl
and_swap true false false y = refl
and_swap false b x y = refl

all_pairs : (t : ℕ → Bool) (n : ℕ) → all t (2 * n) ≡ (all (λ q. t (2 * q)) n && all (λ q. t (2 * q + 1)) n)
unfolding all
all_pairs t zero = refl
all_pairs t (suc n) =
    let e : 2 * suc n ≡ suc (suc (2 * n)) = omega arith in
    let f : suc (2 * n) ≡ 2 * n + 1 = omega arith in
    rw (e, all_pairs t n, f) (and_swap (all (λ q. t (2 * q)) n) (all (λ q. t (2 * q + 1)) n) (t (2 * n)) (t (2 * n + 1)))

-- bit k of x is 0 exactly if t says yes to each number below q
record Clear (t : ℕ → Bool) (x k q : ℕ) : Type 0 where
  is : clear x k ≡ all t q

-- bit k of x is 0 exactly if t says yes to q
record Answers (t : ℕ → Bool) (x k q : ℕ) : Type 0 where
  is : clear x k ≡ t q

clear_first : {t : ℕ → Bool} {x k : ℕ} → Answers t x k 0 → Clear t x k 1
unfolding all
clear_first a = record { is = a.is }

clear_more : {t : ℕ → Bool} {x y k q : ℕ} → Clear t x k q → Answers t y k q → Clear t (bit_or x y) k (suc q)
unfolding all
clear_more {t} {x} {y} {k} {q} c a = record { is = clear_or x y k ∙ ap₂ ◌&&◌ c.is a.is }

-- ---- what the table tells

-- the set has both p and p + 2 ^ i, or neither
abbrev same : List ℕ → ℕ → ℕ → Bool
same s i p = alike (in_set s (p + 2 ^ i)) (in_set s p)

free_strides : (s : List ℕ) (i c : ℕ) → free_of s i c ≡ all (λ q. same s i (c + q * 2 ^ suc i)) (2 ^ (9 - i))
free_strides s i c =
    all_ext _ _ (2 ^ (9 - i)) (λ q l. ap₂ (λ (a b : ℕ). alike (in_set s a) (in_set s b)) (odd_stride c q i) (even_stride c q i))

-- a number is a power of 2 and less than that in one way
power_one : (i j c d : ℕ) → c < 2 ^ i → d < 2 ^ j → 2 ^ i + c ≡ 2 ^ j + d → i ≡ j
power_one i j c d lc ld e = go (dec_lt i j) (dec_lt j i)
  where
    go : Dec (i < j) → Dec (j < i) → i ≡ j
    go (yes l) _ = absurd (omega (arith, pow_mono {i = suc i} {j = j} l, two_pow i))
    go (no _) (yes l) = absurd (omega (arith, pow_mono {i = suc j} {j = i} l, two_pow j))
    go (no a) (no b) = omega arith

-- ---- features 6 to 9: whole words

pair_at : (s : List ℕ) (w v k : ℕ) → k < 64 → clear (bit_xor (get_or s w 0) (get_or s v 0)) k ≡ alike (in_set s (v * 64 + k)) (in_set s (w * 64 + k))
pair_at s w v k lk =
    let x = get_or s w 0 in
    let y = get_or s v 0 in
    clear_xor x y k
    ∙ alike_of (bit x k) (bit y k) (bit_le x k) (bit_le y k)
    ∙ ap₂ (λ (a b : ℕ). alike (eqb a 1) (eqb b 1)) (sym (has_at s v k lk)) (sym (has_at s w k lk))

-- the products of word c, without feature 6 + j and with it, in the steps of the later features
abbrev steps : List ℕ → ℕ → ℕ → ℕ → ℕ → Bool
steps s j c k q = same s (6 + j) (c * 64 + k + q * 2 ^ suc (6 + j))

module _ (s : List ℕ) (j c k : ℕ) (lk : k < 64) where
  pair : (q : ℕ) → Answers (steps s j c k) (bit_xor (get_or s (c + q * (2 * 2 ^ j)) 0) (get_or s (c + (q * (2 * 2 ^ j) + 2 ^ j)) 0)) k q
  pair q =
      let a : 2 ^ (6 + j) ≡ 64 * 2 ^ j = pow-add 2 6 j in
      let b : q * (2 * 2 ^ j) ≡ 2 * (q * 2 ^ j) = mul_left_comm q 2 (2 ^ j) in
      let d : 2 ^ suc (6 + j) ≡ 128 * 2 ^ j = omega (arith, two_pow (6 + j)) in
      let e : q * 2 ^ suc (6 + j) ≡ 128 * (q * 2 ^ j) = ap (λ (x : ℕ). q * x) d ∙ mul_left_comm q 128 (2 ^ j) in
      let up : (c + (q * (2 * 2 ^ j) + 2 ^ j)) * 64 + k ≡ c * 64 + k + q * 2 ^ suc (6 + j) + 2 ^ (6 + j) = omega arith in
      let here : (c + q * (2 * 2 ^ j)) * 64 + k ≡ c * 64 + k + q * 2 ^ suc (6 + j) = omega arith in
      record {
        is =
            pair_at s (c + q * (2 * 2 ^ j)) (c + (q * (2 * 2 ^ j) + 2 ^ j)) k lk
            ∙ ap₂ (λ (a b : ℕ). alike (in_set s a) (in_set s b)) up here;
      }

  first_pair : Clear (steps s j c k) (bit_xor (get_or s c 0) (get_or s (c + 2 ^ j) 0)) k 1
  first_pair =
      let e : c + 0 * (2 * 2 ^ j) ≡ c = omega arith in
      let f : c + (0 * (2 * 2 ^ j) + 2 ^ j) ≡ c + 2 ^ j = omega arith in
      clear_first (rw (e, f) at (pair 0))

word_of : (s : List ℕ) (j c : ℕ) {x : ℕ} → c < 2 ^ j → ((k : ℕ) → k < 64 → Clear (steps s j c k) x k (2 ^ (9 - (6 + j)))) → Word s (2 ^ j + c) x
word_of s j c lc h =
    let a : 2 ^ (6 + j) ≡ 64 * 2 ^ j = pow-add 2 6 j in
    record {
      tells = λ i d k ld lk e.
          let f : i ≡ 6 + j = power_one i (6 + j) d (c * 64 + k) ld (omega arith) (omega arith) in
          let g : d ≡ c * 64 + k = omega (arith, ap (λ (n : ℕ). 2 ^ n) f) in
          rw (f, g) ((h k lk).is ∙ sym (free_strides s (6 + j) (c * 64 + k)));
    }

module _ (s : List ℕ) where
  pub told_six : Word s 1
      (bit_or (bit_or (bit_or (bit_or (bit_or (bit_or (bit_or (bit_xor (get_or s 0 0) (get_or s 1 0)) (bit_xor (get_or s 2 0) (get_or s 3 0)))
      (bit_xor (get_or s 4 0) (get_or s 5 0))) (bit_xor (get_or s 6 0) (get_or s 7 0))) (bit_xor (get_or s 8 0) (get_or s 9 0)))
      (bit_xor (get_or s 10 0) (get_or s 11 0))) (bit_xor (get_or s 12 0) (get_or s 13 0))) (bit_xor (get_or s 14 0) (get_or s 15 0)))
  told_six = word_of s 0 0 (omega arith) (λ k l.
      clear_more (clear_more (clear_more (clear_more (clear_more (clear_more (clear_more (first_pair s 0 0 k l) (pair s 0 0 k l 1)) (pair s 0 0 k l 2))
      (pair s 0 0 k l 3)) (pair s 0 0 k l 4)) (pair s 0 0 k l 5)) (pair s 0 0 k l 6)) (pair s 0 0 k l 7))

  pub told_seven : (c : ℕ) → c < 2 → Word s (2 + c)
      (bit_or (bit_or (bit_or (bit_xor (get_or s c 0) (get_or s (c + 2) 0)) (bit_xor (get_or s (c + 4) 0) (get_or s (c + 6) 0)))
      (bit_xor (get_or s (c + 8) 0) (get_or s (c + 10) 0))) (bit_xor (get_or s (c + 12) 0) (get_or s (c + 14) 0)))
  told_seven c lc = word_of s 1 c (omega arith) (λ k l.
      clear_more (clear_more (clear_more (first_pair s 1 c k l) (pair s 1 c k l 1)) (pair s 1 c k l 2)) (pair s 1 c k l 3))

  pub told_eight : (c : ℕ) → c < 4 → Word s (4 + c) (bit_or (bit_xor (get_or s c 0) (get_or s (c + 4) 0)) (bit_xor (get_or s (c + 8) 0) (get_or s (c + 12) 0)))
  told_eight c lc = word_of s 2 c (omega arith) (λ k l. clear_more (first_pair s 2 c k l) (pair s 2 c k l 1))

  pub told_nine : (w : ℕ) → 8 ≤ w → w < 16 → Word s w (bit_xor (get_or s (w - 8) 0) (get_or s w 0))
  told_nine w le lw =
      let e : 8 + (w - 8) ≡ w = omega arith in
      let f : w - 8 + 8 ≡ w = omega arith in
      let h : Word s (8 + (w - 8)) (bit_xor (get_or s (w - 8) 0) (get_or s (w - 8 + 8) 0)) = word_of s 3 (w - 8) (omega arith) (λ k l. first_pair s 3 (w - 8) k l) in
      rw (e, f) at h

-- ---- features 0 to 5: within a word

six : (P : ℕ → Type 0) → P 0 → P 1 → P 2 → P 3 → P 4 → P 5 → (i : ℕ) → i < 6 → P i
six P a b c d e f =
    below_more P 5 (below_more P 4 (below_more P 3 (below_more P 2 (below_more P 1 (below_more P 0 (below_none P) a) b) c) d) e) f

abbrev near : List ℕ → ℕ → ℕ → ℕ → Bool
near s i k w = eqb (bit (get_or s w 0) k) (bit (get_or s w 0) (2 ^ i + k))

-- bit k of r: the first w words differ in no bits k and 2 ^ i + k
pub record Across (s : List ℕ) (i r w : ℕ) : Type 0 where
  pub most : w ≤ 16
  pub bits : (k : ℕ) → clear r k ≡ all (near s i k) w

pub across_none : (s : List ℕ) (i : ℕ) → Across s i 0 0
unfolding all
across_none s i = record { most = omega arith; bits = λ k. eq-eqb (bit 0 k) 0 (zero_bit k) }

-- what the word of differences of a word says
near_bit : (x i k : ℕ) → i < 6 → clear (bit_xor x (x / 2 ^ step i)) k ≡ eqb (bit x k) (bit x (2 ^ i + k))
near_bit x i k li =
    clear_xor x (x / 2 ^ step i) k
    ∙ ap (λ (n : ℕ). eqb (bit x k) n) (ap (λ (n : ℕ). bit (x / 2 ^ n) k) (step_is i (omega arith)) ∙ shr_bit x (2 ^ i) k)

pub across_more : {s : List ℕ} {i r w : ℕ} → Across s i r w → i < 6 → w < 16
    → Across s i (bit_or r (bit_xor (get_or s w 0) (get_or s w 0 / 2 ^ step i))) (w + 1)
unfolding all
across_more {s} {i} {r} {w} h li lw = record {
  most = omega arith;
  bits = λ k. rw add-one (clear_or r (bit_xor (get_or s w 0) (get_or s w 0 / 2 ^ step i)) k ∙ ap₂ ◌&&◌ (h.bits k) (near_bit (get_or s w 0) i k li));
}

-- a word that stands for all tells of all
pub across_typical : {x i : ℕ} {s : List ℕ} → Typical x s → i < 6 → (k : ℕ) → 2 ^ i + k < 64 → clear (bit_xor x (x / 2 ^ step i)) k ≡ all (near s i k) 16
across_typical {x} {i} {s} h li k lk =
    near_bit x i k li
    ∙ bool_ext (eqb (bit x k) (bit x (2 ^ i + k))) (all (near s i k) 16)
    (λ e. all_true (near s i k) 16 (λ w l. eq-eqb (bit (get_or s w 0) k) (bit (get_or s w 0) (2 ^ i + k))
    (h.every w k (2 ^ i + k) l (omega arith) lk (eqb-true (bit x k) (bit x (2 ^ i + k)) e))))
    (λ e. eq-eqb (bit x k) (bit x (2 ^ i + k))
    (h.joins.some k (2 ^ i + k) (λ w l. eqb-true (bit (get_or s w 0) k) (bit (get_or s w 0) (2 ^ i + k)) (all_at (near s i k) 16 e w l))))

abbrev near_at : List ℕ → ℕ → ℕ → Bool
near_at s i p = near s i (p % 64) (p / 64)

-- bit k of r, where 2 ^ i + k is below 2 ^ (j + 1) too: whatever the features behind j are
pub record Brought (s : List ℕ) (i r j : ℕ) : Type 0 where
  pub least : i ≤ j
  pub most : j ≤ 5
  pub bits : (k : ℕ) → 2 ^ i + k < 2 ^ suc j → clear r k ≡ all (λ q. near_at s i (k + q * 2 ^ suc j)) (2 ^ (9 - j))

brought_down : {s : List ℕ} {i r j : ℕ} → Brought s i r (suc j) → i < suc j → Brought s i (bit_or r (r / 2 ^ step (suc j))) j
brought_down {s} {i} {r} {j} h l =
    let most : suc j ≤ 5 = h.most in
    let e : 9 - j ≡ suc (9 - suc j) = omega arith in
    let m : 2 ^ (9 - j) ≡ 2 * 2 ^ (9 - suc j) = ap (λ (x : ℕ). 2 ^ x) e ∙ sym (two_pow (9 - suc j)) in
    record {
      least = omega arith;
      most = omega arith;
      bits = λ k lk.
          let t : ℕ → Bool = λ q. near_at s i (k + q * 2 ^ suc j) in
          let even : all (λ q. near_at s i (k + q * 2 ^ suc (suc j))) (2 ^ (9 - suc j)) ≡ all (λ q. t (2 * q)) (2 ^ (9 - suc j)) =
          all_ext _ _ (2 ^ (9 - suc j)) (λ q lq. ap (λ (p : ℕ). near_at s i p) (sym (even_stride k q (suc j)))) in
          let odd : all (λ q. near_at s i (2 ^ suc j + k + q * 2 ^ suc (suc j))) (2 ^ (9 - suc j)) ≡ all (λ q. t (2 * q + 1)) (2 ^ (9 - suc j)) =
          all_ext _ _ (2 ^ (9 - suc j)) (λ q lq.
          let f : 2 ^ suc j + k + q * 2 ^ suc (suc j) ≡ k + (2 * q + 1) * 2 ^ suc j = omega (arith, odd_stride k q (suc j)) in
          ap (λ (p : ℕ). near_at s i p) f) in
          let up : clear (r / 2 ^ step (suc j)) k ≡ clear r (2 ^ suc j + k) =
          ap (λ (n : ℕ). clear (r / 2 ^ n) k) (step_is (suc j) (omega arith)) ∙ ap (λ (n : ℕ). eqb n 0) (shr_bit r (2 ^ suc j) k) in
          clear_or r (r / 2 ^ step (suc j)) k
          ∙ ap₂ ◌&&◌ (h.bits k (omega (arith, two_pow (suc j))) ∙ even) (up ∙ h.bits (2 ^ suc j + k) (omega (arith, two_pow (suc j))) ∙ odd)
          ∙ sym (ap (λ (n : ℕ). all t n) m ∙ all_pairs t (2 ^ (9 - suc j)));
    }

pub brought_more : {s : List ℕ} {i r j : ℕ} → Brought s i r j → i < j → Brought s i (bit_or r (r / 2 ^ step j)) (j - 1)
brought_more {s} {i} {r} {j} h l =
    let e : j ≡ suc (j - 1) = omega arith in
    let g : Brought s i r (suc (j - 1)) = rw e at h in
    rw (sym e) at (brought_down g (omega arith))

-- a number without feature i, and with it, lies in one word
inside : (i : ℕ) → i < 6 → (c q : ℕ) → c < 2 ^ i → (c + q * 2 ^ suc i + 2 ^ i) / 64 ≡ (c + q * 2 ^ suc i) / 64
inside = six (λ i. (c q : ℕ) → c < 2 ^ i → (c + q * 2 ^ suc i + 2 ^ i) / 64 ≡ (c + q * 2 ^ suc i) / 64)
    (λ c q l. omega arith) (λ c q l. omega arith) (λ c q l. omega arith) (λ c q l. omega arith) (λ c q l. omega arith) (λ c q l. omega arith)

near_same : (s : List ℕ) (i p : ℕ) → (p + 2 ^ i) / 64 ≡ p / 64 → near_at s i p ≡ same s i p
unfolding has
near_same s i p e =
    let f : 2 ^ i + p % 64 ≡ (p + 2 ^ i) % 64 = omega arith in
    let x = get_or s (p / 64) 0 in
    alike_of (bit x (p % 64)) (bit x (2 ^ i + p % 64)) (bit_le x (p % 64)) (bit_le x (2 ^ i + p % 64))
    ∙ ap₂ (λ (w b : ℕ). alike (eqb (bit (get_or s w 0) b) 1) (in_set s p)) (sym e) f

pub brought_all : {s : List ℕ} {i r j : ℕ} → Brought s i r j → j ≤ i → Level s i r
brought_all {s} {i} {r} {j} h le =
    let e : j ≡ i = omega (arith, h.least) in
    let g : Brought s i r i = rw e at h in
    let small : i ≤ 5 = g.most in
    record {
      tells = λ c lc.
          g.bits c (omega (arith, two_pow i))
          ∙ all_ext _ _ (2 ^ (9 - i)) (λ q l. near_same s i (c + q * 2 ^ suc i) (inside i (omega arith) c q lc))
          ∙ sym (free_strides s i c);
    }

-- ---- six levels in one word

-- the bits of level i lie behind those of the levels before
packed : (ℕ → ℕ) → ℕ → ℕ
packed y zero = y 0 % 2 ^ 2 ^ 0 * 2 ^ 2 ^ 0
packed y (suc n) = packed y n + y (suc n) % 2 ^ 2 ^ suc n * 2 ^ 2 ^ suc n

cut_lt : (x m : ℕ) → x % 2 ^ m < 2 ^ m
cut_lt x m = mod-lt x (pow_pos m)

-- two times m bits
joined_lt : (x y m : ℕ) → x < 2 ^ m → x + y % 2 ^ m * 2 ^ m < 2 ^ (m + m)
joined_lt x y m l =
    let z = y % 2 ^ m in
    let a : suc z * 2 ^ m ≤ 2 ^ m * 2 ^ m = mul-le-mul_right (2 ^ m) (cut_lt y m) in
    let b : suc z * 2 ^ m ≡ z * 2 ^ m + 2 ^ m = omega arith in
    omega (arith, pow-add 2 m m)

packed_lt : (y : ℕ → ℕ) (n : ℕ) → packed y n < 2 ^ 2 ^ suc n
unfolding packed
packed_lt y zero = omega arith
packed_lt y (suc n) =
    let e : 2 ^ suc n + 2 ^ suc n ≡ 2 ^ suc (suc n) = omega (arith, two_pow (suc n)) in
    rw e at (joined_lt (packed y n) (y (suc n)) (2 ^ suc n) (packed_lt y n))

-- what is added above does not matter
pub below_bit : (x z m k : ℕ) → x < 2 ^ m → k < m → bit (x + z * 2 ^ m) k ≡ bit x k
below_bit x z m k l lk =
    let e : (z * 2 ^ m + x) % 2 ^ m ≡ x = low z m l in
    let f : x + z * 2 ^ m ≡ z * 2 ^ m + x = omega arith in
    ap (λ (n : ℕ). bit n k) f ∙ sym (cut_bit (z * 2 ^ m + x) k m lk) ∙ ap (λ (n : ℕ). bit n k) e

behind_bit : (x y m k : ℕ) → x < 2 ^ m → k < m → bit (x + y % 2 ^ m * 2 ^ m) (m + k) ≡ bit y k
behind_bit x y m k l lk =
    let z = y % 2 ^ m in
    let e : (z * 2 ^ m + x) / 2 ^ m ≡ z = high z m l in
    let f : x + z * 2 ^ m ≡ z * 2 ^ m + x = omega arith in
    ap (λ (n : ℕ). bit n (m + k)) f ∙ sym (shr_bit (z * 2 ^ m + x) m k) ∙ ap (λ (n : ℕ). bit n k) e ∙ cut_bit y k m lk

packed_bit : (y : ℕ → ℕ) (n i c : ℕ) → i ≤ n → c < 2 ^ i → bit (packed y n) (2 ^ i + c) ≡ bit (y i) c
unfolding packed
packed_bit y zero i c le lc =
    let e : 0 ≡ i = omega arith in
    let g : c < 2 ^ 0 = rw (sym e) at lc in
    let f : y 0 % 2 ^ 2 ^ 0 * 2 ^ 2 ^ 0 ≡ 0 + y 0 % 2 ^ 2 ^ 0 * 2 ^ 2 ^ 0 = omega arith in
    rw (sym e) (ap (λ (n : ℕ). bit n (2 ^ 0 + c)) f ∙ behind_bit 0 (y 0) (2 ^ 0) c (omega arith) g)
packed_bit y (suc n) i c le lc = go (packed_bit y n i c) (dec_lt n i)
  where
    go : (i ≤ n → c < 2 ^ i → bit (packed y n) (2 ^ i + c) ≡ bit (y i) c) → Dec (n < i)
        → bit (packed y n + y (suc n) % 2 ^ 2 ^ suc n * 2 ^ 2 ^ suc n) (2 ^ i + c) ≡ bit (y i) c
    go ih (yes l) =
        let e : i ≡ suc n = omega arith in
        let g : c < 2 ^ suc n = rw e at lc in
        rw e (behind_bit (packed y n) (y (suc n)) (2 ^ suc n) c (packed_lt y n) g)
    go ih (no l) =
        below_bit (packed y n) (y (suc n) % 2 ^ 2 ^ suc n) (2 ^ suc n) (2 ^ i + c) (packed_lt y n)
        (omega (arith, two_pow i, pow_mono {i = suc i} {j = suc n} (omega arith)))
        ∙ ih (omega arith) lc

pub told_first : {s : List ℕ} {a b c d e f : ℕ} → Level s 0 a → Level s 1 b → Level s 2 c → Level s 3 d → Level s 4 e → Level s 5 f
    → Word s 0 (a % 2 * 2 + b % 4 * 4 + c % 16 * 16 + d % 256 * 256 + e % 65536 * 65536 + f % 4294967296 * 4294967296)
unfolding packed
told_first {s} {a} {b} {c} {d} {e} {f} la lb lc ld le lf =
    let y : ℕ → ℕ = λ i. get_or (a ∷ b ∷ c ∷ d ∷ e ∷ f ∷ []) i 0 in
    record {
      tells = λ i n k ln lk eq.
          let h : i < 6 = power_below i (omega (arith, eq)) in
          let g : k ≡ 2 ^ i + n = omega (arith, eq) in
          rw g (ap (λ (x : ℕ). eqb x 0) (packed_bit y 5 i n (omega arith) ln) ∙ (six (λ i. Level s i (y i)) la lb lc ld le lf i h).tells n ln);
    }
  where
    power_below : (i : ℕ) → 2 ^ i < 64 → i < 6
    power_below i l = go (dec_lt i 6)
      where
        go : Dec (i < 6) → i < 6
        go (yes h) = h
        go (no h) = absurd (omega (arith, pow_mono {i = 6} {j = i} (omega arith)))

-- ---- the words behind the first

-- the words of the table from 1 on, and before w, are there
pub record Made (s t : List ℕ) (w : ℕ) : Type 0 where
  pub least : 1 ≤ w
  pub most : w ≤ 16
  pub long : length t ≡ 16
  pub words : (v : ℕ) → 1 ≤ v → v < w → Word s v (get_or t v 0)

-- ---- the first feature that the table marks

pub record Passed (t : List ℕ) (n i c j : ℕ) : Type 0 where
  pub least : i ≤ j
  pub most : j ≤ n
  pub none : (k : ℕ) → i ≤ k → k < j → in_set t (2 ^ k + c) ≡ false

pub passed_none : (t : List ℕ) (n i c : ℕ) → i ≤ n → Passed t n i c i
passed_none t n i c le = record { least = omega arith; most = le; none = λ k a b. absurd (omega arith) }

pub mark_below : (i j n c : ℕ) → c < 2 ^ i → i ≤ j → j < n → n ≤ 10 → step j + c < 1024
mark_below i j n c lc le lj ln =
    omega (arith, step_is j (omega arith), two_pow j, pow_mono {i = i} {j = j} le, pow_mono {i = suc j} {j = 10} (omega arith))
