-- Words joined by `|`: what is known of those that were joined, how that grows by a word, and what it says where all are: of the words of a set,
-- and of the differences of two sets' words. And what it says of a set to be the full one or not. Assumes nothing.
use Rattle.std.proofs.Common.{◌≡◌, refl, ◌∙◌, List, ◌⊎◌, inl, inr, ⊎_elim, ℕ, zero, suc, ◌+◌, ◌*◌, ◌/◌, ◌%◌, ◌^◌, ◌<◌, ◌≤◌, eq-or-lt_of_le, arith, below_more, bit_or, bit_xor, length, get_or, replicate, ext_get_or}
use native.Mathlib.Decide.{dec_lt}
use lib.Bits.{and_le_l, and_le_r, or_add_and, xor_add_and, xor_self}
use lib.ListN.{get_or-replicate, get_or-eq_default}
use Rattle.products.specs.Sets.{bit, has, In, Full, Lacks, Words}
use Rattle.products.proofs.Bits.{zero_bit, eq_bits}
use Rattle.products.proofs.Laws.{has_at, has_le, full_has}
use Rattle.products.proofs.Determined.{members_determine}

-- one of the numbers below n has the property P, or all have Q
one_or_all : {P Q : ℕ → Type 0} → ((q : ℕ) → P q ⊎ Q q) → (n : ℕ) → ((q : ℕ) × (q < n) × P q) ⊎ ((q : ℕ) → q < n → Q q)
one_or_all d zero = inr (λ q l. absurd (omega arith))
one_or_all {Q = Q} d (suc n) =
    ⊎_elim (λ z. inl (z.0, omega (arith, z.1), z.2))
    (λ f. ⊎_elim (λ p. inl (n, omega arith, p)) (λ h. inr (λ q l. below_more Q n f h q (omega arith))) (d n)) (one_or_all d n)

-- s has the product q, or lacks it
has_or_lacks : (s : List ℕ) (q : ℕ) → (has s q ≡ 1) ⊎ (has s q ≡ 0)
has_or_lacks s q = ⊎_elim inl (λ l. inr (omega arith)) (eq-or-lt_of_le (has_le s q))

lacks_or_has : (s : List ℕ) (q : ℕ) → (has s q ≡ 0) ⊎ (has s q ≡ 1)
lacks_or_has s q = ⊎_elim inr inl (has_or_lacks s q)

-- all is 0 exactly where the first i of the words are
pub record Joined (word : ℕ → ℕ) (i all : ℕ) : Type 0 where
  pub words : all ≡ 0 → (k : ℕ) → k < i → word k ≡ 0
  pub whole : ((k : ℕ) → k < i → word k ≡ 0) → all ≡ 0

-- no word
pub joined_none : (word : ℕ → ℕ) (i all : ℕ) → i ≡ 0 → all ≡ 0 → Joined word i all
joined_none word i all ei ea = record { words = λ e k lk. absurd (omega arith); whole = λ z. ea }

-- a word more
pub joined_word : {word : ℕ → ℕ} {i all : ℕ} → Joined word i all → Joined word (i + 1) (bit_or all (word i))
joined_word {word} {i} {all} h =
    let x = word i in
    record {
      words = λ e. below_more (λ k. word k ≡ 0) i
          (h.words (omega (arith, e, or_add_and all x, and_le_r all x)))
          (omega (arith, e, or_add_and all x, and_le_l all x));
      whole = λ z. omega (arith, h.whole (λ k lk. z k (omega arith)), z i (omega arith), or_add_and all x);
    }

-- ---- the words of a set

abbrev pub word_of : List ℕ → ℕ → ℕ
word_of s k = get_or s k 0

module _ {s : List ℕ} {i all : ℕ} (h : Joined (word_of s) i all) where
  -- all words, each 0
  pub joined_empty : 16 ≤ i → all ≡ 0 → (q : ℕ) → In s q → ⊥
  unfolding has
  joined_empty le e q m =
      let z : get_or s (q / 64) 0 ≡ 0 = h.words e (q / 64) (omega (arith, m.small)) in
      let o : bit (get_or s (q / 64) 0) (q % 64) ≡ 1 = m.is in
      omega (arith, zero_bit (q % 64), rw z at o)

  -- all words, one not 0: not every word is clear
  joined_full : i ≤ 16 → ((k : ℕ) → k < 16 → get_or s k 0 < 2 ^ 64) → (all ≡ 0 → ⊥) → ((q : ℕ) → In s q → ⊥) → ⊥
  joined_full le word ne none = ne (h.whole (λ k lk. eq_bits 64 (get_or s k 0) 0 (word k (omega arith)) (omega arith) (clear k lk)))
    where
      clear : (k : ℕ) → k < i → (j : ℕ) → j < 64 → bit (get_or s k 0) j ≡ bit 0 j
      clear k lk j lj =
          let n : bit (get_or s k 0) j ≡ 1 → ⊥ = λ e. none (k * 64 + j) (record { small = omega arith; is = has_at s k j lj ∙ e }) in
          omega (arith, zero_bit j)

  -- so there is a product
  pub joined_some : i ≤ 16 → ((k : ℕ) → k < 16 → get_or s k 0 < 2 ^ 64) → (all ≡ 0 → ⊥) → (q : ℕ) × In s q
  joined_some le word ne =
      ⊎_elim (λ z. (z.0, record { small = z.1; is = z.2 })) (λ z. absurd (joined_full le word ne (λ q m. omega (arith, z q m.small, m.is))))
      (one_or_all (has_or_lacks s) 1024)

-- ---- the differences of two sets' words

abbrev pub difference : List ℕ → List ℕ → ℕ → ℕ
difference a b k = bit_xor (get_or a k 0) (get_or b k 0)

-- words that differ in no bit are the same
xor_none : (x y : ℕ) → bit_xor x y ≡ 0 → x ≡ y
xor_none x y e = omega (arith, xor_add_and x y, and_le_l x y, and_le_r x y)

module _ {a b : List ℕ} {i all : ℕ} (h : Joined (difference a b) i all) where
  pub joined_same : length a ≡ 16 → length b ≡ 16 → 16 ≤ i → all ≡ 0 → a ≡ b
  joined_same la lb le e = ext_get_or 0 a b (omega arith) (λ k lk. xor_none (get_or a k 0) (get_or b k 0) (h.words e k (omega arith)))

  pub joined_other : (all ≡ 0 → ⊥) → a ≡ b → ⊥
  joined_other ne e = ne (h.whole (λ k lk. rw e (xor_self (get_or b k 0))))

-- ---- the full set

abbrev full : List ℕ
full = replicate 16 0xffff_ffff_ffff_ffff

-- what every value of type [u64; 16] is, from its sixteen words
words_of : {s : List ℕ} → length s ≡ 16 → ((k : ℕ) → k < 16 → get_or s k 0 < 2 ^ 64) → Words s
words_of {s} long word = record { long = long; word = λ k. go k (dec_lt k 16) }
  where
    go : (k : ℕ) → Dec (k < 16) → get_or s k 0 < 2 ^ 64
    go k (yes l) = word k l
    go k (no n) = let past : length s ≤ k = omega arith in rw (get_or-eq_default s 0 past) (omega arith)

full_words : Words full
full_words = words_of refl (λ k l. rw (get_or-replicate {A = ℕ} 16 k 0xffff_ffff_ffff_ffff 0 l) (omega arith))

pub full_is : {s : List ℕ} → s ≡ full → Full s
full_is e p l = rw e (full_has p l)

pub lacks_is : {s : List ℕ} → length s ≡ 16 → ((k : ℕ) → k < 16 → get_or s k 0 < 2 ^ 64) → (s ≡ full → ⊥) → Lacks s
lacks_is {s} long word ne =
    ⊎_elim (λ z. z) (λ f. absurd (ne (members_determine (λ p. 1) s full (words_of long word) full_words f full_has))) (one_or_all (lacks_or_has s) 1024)
