-- The choices that a guard meets, as bits of words: one feature more within the first word, and by whole words. How many are split on the feature is a
-- count of the bits that are new. Assumes nothing.
use mathlib.Core.Path.{◌≡◌, refl, sym, ap, ap₂, ◌∙◌}
use mathlib.Core.List.{List, [], ◌∷◌}
use Prim.Native.Nat.{ℕ, zero, suc, ◌+◌, ◌-◌, ◌*◌, ◌/◌, ◌%◌, ◌^◌, ◌<◌, ◌≤◌, min, max}
use native.Mathlib.Omega.{arith}
use native.Mathlib.Decide.{dec_lt}
use native.Mathlib.Numerals.{add-one}
use native.Mathlib.Nat.{zero-add}
use lib.Bits.{bit_and, bit_or}
use lib.Count.{ones}
use lib.ListN.{get_or, length, set, length-set}
use lib.Pow.{pow-add, pow_mono, shl-shr}
use lib.Seq.{get_or-set_same, get_or-set_other}
use Rattle.products.specs.Sets.{bit, has, count_to}
use Rattle.products.specs.Orders.{bits}
use Rattle.products.proofs.Bits.{bit_and_lem, bit_or_lem, zero_bit, cut_bit, ones_bits}
use Rattle.products.proofs.Laws.{has_at, count_more, count_le, count_bits}
use Rattle.splitting.specs.Inside.{Met, Further, Widened}
use Rattle.splitting.proofs.Marks.{two_pow, step, step_is, shr_bit, below_bit}

-- ---- counts

-- from m on a and b have as many
count_same : (a b : List ℕ) (m k : ℕ) → ((p : ℕ) → p < k → has a (m + p) ≡ has b (m + p))
    → count_to a (m + k) + count_to b m ≡ count_to b (m + k) + count_to a m
count_same a b m zero h = let e : m + 0 ≡ m = omega arith in rw e (omega arith)
count_same a b m (suc k) h =
    let e : m + suc k ≡ m + k + 1 = omega arith in
    rw e (omega (arith, count_more a (m + k), count_more b (m + k), h k (omega arith), count_same a b m k (λ p l. h p (omega arith))))

-- from m on there is none
count_none : (a : List ℕ) (m k : ℕ) → ((p : ℕ) → m ≤ p → p < m + k → has a p ≡ 0) → count_to a (m + k) ≡ count_to a m
count_none a m zero h = let e : m + 0 ≡ m = omega arith in rw e refl
count_none a m (suc k) h =
    let e : m + suc k ≡ m + k + 1 = omega arith in
    rw e (omega (arith, count_more a (m + k), h (m + k) (omega arith) (omega arith), count_none a m k (λ p g l. h p g (omega arith))))

-- sets that are alike below n have as many there
pub count_alike : (a b : List ℕ) (n : ℕ) → ((p : ℕ) → p < n → has a p ≡ has b p) → count_to a n ≡ count_to b n
unfolding count_to
count_alike a b zero h = refl
count_alike a b (suc n) h = ap₂ ◌+◌ (count_alike a b n (λ p l. h p (omega arith))) (h n (omega arith))

-- one word, as a set of 64 products
word_bits : (x : ℕ) → count_to (x ∷ []) 64 ≡ bits x 64
unfolding count_to
word_bits x = count_bits (x ∷ []) 0 64 (omega arith) ∙ zero-add (bits x 64)

pub word_ones : {x : ℕ} → x < 2 ^ 64 → ones x ≡ count_to (x ∷ []) 64
word_ones {x} l = ones_bits 64 x l ∙ sym (word_bits x)

pub word_few : {r : ℕ} (x : ℕ) → r ≡ count_to (x ∷ []) 64 → r ≤ 64
word_few x e = omega (arith, count_le (x ∷ []) 64)

word_more : (s : List ℕ) (w : ℕ) → count_to s (w * 64 + 64) ≡ count_to s (w * 64) + count_to (get_or s w 0 ∷ []) 64
word_more s w = omega (arith, count_bits s w 64 (omega arith), word_bits (get_or s w 0))

-- the products of the first word
pub word_bit : (y : List ℕ) (p : ℕ) → p < 64 → has y p ≡ bit (get_or y 0 0) p
word_bit y p lp = let e : 0 * 64 + p ≡ p = omega arith in rw e at (has_at y 0 p lp)

-- ---- one word is stored

set_other : (m : List ℕ) (v x p : ℕ) → (p / 64 ≡ v → ⊥) → has (set m v x) p ≡ has m p
unfolding has
set_other m v x p ne = ap (λ (y : ℕ). bit y (p % 64)) (get_or-set_other m v (p / 64) x 0 ne)

set_here : (m : List ℕ) (v x k : ℕ) → v < length m → k < 64 → has (set m v x) (v * 64 + k) ≡ bit x k
set_here m v x k l lk = has_at (set m v x) v k lk ∙ ap (λ (y : ℕ). bit y k) (get_or-set_same m v x 0 l)

-- ---- by whole words

module _ {h w k : ℕ} {t l m : List ℕ} (wide : Widened h t l m w k) (small : h ≤ 8) (lw : w < h) where
  -- word h + w
  abbrev split : ℕ
  split = bit_and (get_or m w 0) (get_or t (h + w) 0)

  abbrev m' : List ℕ
  m' = set m (h + w) split

  fits : h + w < length m
  fits = omega (arith, wide.long)

  old : (p : ℕ) → p < (h + w) * 64 → has m' p ≡ has m p
  old p lp = set_other m (h + w) split p (λ e. omega arith)

  new : (b : ℕ) → b < 64 → has m' (h * 64 + (w * 64 + b)) ≡ min (has m' (w * 64 + b)) (has t (h * 64 + (w * 64 + b)))
  new b lb =
      let e : h * 64 + (w * 64 + b) ≡ (h + w) * 64 + b = omega arith in
      rw e
      (set_here m (h + w) split b fits lb
      ∙ bit_and_lem (get_or m w 0) (get_or t (h + w) 0) b
      ∙ ap₂ min (sym (has_at m w b lb) ∙ sym (old (w * 64 + b) (omega arith))) (sym (has_at t (h + w) b lb)))

  split_at : (p : ℕ) → p < (w + 1) * 64 → Dec (p < w * 64) → has m' (h * 64 + p) ≡ min (has m' p) (has t (h * 64 + p))
  split_at p lp (yes l) =
      old (h * 64 + p) (omega arith)
      ∙ wide.split p l
      ∙ ap (λ (y : ℕ). min y (has t (h * 64 + p))) (sym (old p (omega arith)))
  split_at p lp (no l) =
      let e : w * 64 + (p - w * 64) ≡ p = omega arith in
      rw e at (new (p - w * 64) (omega arith))

  pub widened_more : {r : ℕ} → r ≡ count_to (split ∷ []) 64 → Widened h t l m' (w + 1) (k + r)
  widened_more {r} told =
      let e : h * 64 + (w + 1) * 64 ≡ (h + w) * 64 + 64 = omega arith in
      let d : (h + w) * 64 ≡ h * 64 + w * 64 = omega arith in
      let f : get_or m' (h + w) 0 ≡ split = get_or-set_same m (h + w) split 0 fits in
      let a : count_to m' (h * 64 + w * 64) ≡ count_to m (h * 64 + w * 64) = count_alike m' m (h * 64 + w * 64) (λ p lp. old p (omega arith)) in
      let b : count_to m' (h * 64) ≡ count_to m (h * 64) = count_alike m' m (h * 64) (λ p lp. old p (omega arith)) in
      let n : count_to m' ((h + w) * 64 + 64) ≡ count_to m' ((h + w) * 64) + count_to (split ∷ []) 64 = rw f at (word_more m' (h + w)) in
      record {
        long = simp length-set wide.long;
        kept = λ p lp. old p (omega arith) ∙ wide.kept p lp;
        split = λ p lp. split_at p lp (dec_lt p (w * 64));
        more = rw e (omega (arith, n, ap (count_to m') d, a, b, wide.more, told));
      }

-- ---- one feature more

-- what is met with feature i and without it is what is met of one feature more
grown : {i : ℕ} {t l m : List ℕ} → Met i t l → length m ≡ 16 → ((p : ℕ) → p < 2 ^ i → has m p ≡ has l p)
    → ((c : ℕ) → c < 2 ^ i → has m (2 ^ i + c) ≡ min (has m c) (has t (2 ^ i + c))) → ((p : ℕ) → 2 ^ (i + 1) ≤ p → p < 64 → has m p ≡ 0)
    → Met (i + 1) t m
grown {i} {t} {l} {m} met long kept new blank = record {
  long = long;
  first = kept 0 (omega (arith, pow_mono {i = 0} {j = i} (omega arith))) ∙ met.first;
  split = λ j c lj lc. go j c lj lc (dec_lt j i);
  blank = blank;
}
  where
    go : (j c : ℕ) → j < i + 1 → c < 2 ^ j → Dec (j < i) → has m (2 ^ j + c) ≡ min (has m c) (has t (2 ^ j + c))
    go j c lj lc (yes h) =
        let b : 2 ^ j + c < 2 ^ i = omega (arith, two_pow j, pow_mono {i = suc j} {j = i} h) in
        kept (2 ^ j + c) b ∙ met.split j c h lc ∙ ap (λ (y : ℕ). min y (has t (2 ^ j + c))) (sym (kept c (omega arith)))
    go j c lj lc (no h) =
        let e : i ≡ j = omega arith in
        rw e at (new c (rw (sym e) at lc))

-- the words before a feature from 6 on
pub step_words : (i : ℕ) → 6 ≤ i → i < 10 → step (i - 6) ≤ 8
step_words i le li = omega (arith, step_is (i - 6) (omega arith), pow_mono {i = i - 6} {j = 3} (omega arith))

-- feature 6 or a later one: by words
pub further_words : {i h r : ℕ} {t l m : List ℕ} → (length l ≡ 16 → Widened h t l m h r) → h ≡ step (i - 6) → 6 ≤ i → i < 10 → Met i t l
    → Further i t l m r
further_words {i} {h} {r} {t} {l} {m} widened told le li met =
    let wide : Widened h t l m h r = widened met.long in
    let s : h ≡ 2 ^ (i - 6) = told ∙ step_is (i - 6) (omega arith) in
    let d : i - 6 + 6 ≡ i = omega arith in
    let e : h * 64 ≡ 2 ^ i = ap (λ (y : ℕ). y * 64) s ∙ sym (pow-add 2 (i - 6) 6) ∙ ap (λ (y : ℕ). 2 ^ y) d in
    let f : h * 64 + h * 64 ≡ 2 ^ (i + 1) = rw add-one (omega (arith, two_pow i)) in
    let kept : (p : ℕ) → p < 2 ^ i → has m p ≡ has l p = rw e at wide.kept in
    record {
      met = grown met wide.long kept (rw e at wide.split) (λ p g lp. absurd (omega (arith, pow_mono {i = 6} {j = i + 1} (omega arith))));
      kept = kept;
      more = rw (f, e) at wide.more;
    }

-- a feature before 6: within the first word
module _ {i : ℕ} {t l : List ℕ} (met : Met i t l) (li : i < 6) where
  abbrev word : ℕ
  word = get_or l 0 0

  abbrev both : ℕ
  both = bit_and (word * 2 ^ step i % 2 ^ 64) (get_or t 0 0)

  abbrev m : List ℕ
  m = set l 0 (bit_or word both)

  half : 2 ^ suc i ≤ 64
  half = pow_mono {i = suc i} {j = 6} li

  new_bit : (c : ℕ) → 2 ^ i + c < 64 → bit both (2 ^ i + c) ≡ min (has l c) (has t (2 ^ i + c))
  new_bit c lc =
      let a : bit (word * 2 ^ step i % 2 ^ 64) (2 ^ i + c) ≡ bit word c =
      cut_bit (word * 2 ^ step i) (2 ^ i + c) 64 lc
      ∙ ap (λ (y : ℕ). bit (word * 2 ^ y) (2 ^ i + c)) (step_is i (omega arith))
      ∙ sym (shr_bit (word * 2 ^ 2 ^ i) (2 ^ i) c)
      ∙ ap (λ (y : ℕ). bit y c) (shl-shr word (2 ^ i)) in
      bit_and_lem (word * 2 ^ step i % 2 ^ 64) (get_or t 0 0) (2 ^ i + c)
      ∙ ap₂ min (a ∙ sym (word_bit l c (omega arith))) (sym (word_bit t (2 ^ i + c) lc))

  low_bit : (p : ℕ) → p < 2 ^ i → bit both p ≡ 0
  low_bit p lp =
      let z : word * 2 ^ 2 ^ i ≡ 0 + word * 2 ^ 2 ^ i = omega arith in
      let a : bit (word * 2 ^ step i % 2 ^ 64) p ≡ 0 =
      cut_bit (word * 2 ^ step i) p 64 (omega (arith, half, two_pow i))
      ∙ ap (λ (y : ℕ). bit (word * 2 ^ y) p) (step_is i (omega arith))
      ∙ ap (λ (y : ℕ). bit y p) z
      ∙ below_bit 0 word (2 ^ i) p (omega (arith, pow_mono {i = 0} {j = 2 ^ i} (omega arith))) lp
      ∙ zero_bit p in
      omega (arith, bit_and_lem (word * 2 ^ step i % 2 ^ 64) (get_or t 0 0) p, a)

  high_bit : (p : ℕ) → 2 ^ suc i ≤ p → p < 64 → bit both p ≡ 0
  high_bit p le lp =
      let e : 2 ^ i + (p - 2 ^ i) ≡ p = omega (arith, two_pow i) in
      let a : bit both (2 ^ i + (p - 2 ^ i)) ≡ min (has l (p - 2 ^ i)) (has t (2 ^ i + (p - 2 ^ i))) = new_bit (p - 2 ^ i) (omega arith) in
      let b : has l (p - 2 ^ i) ≡ 0 = met.blank (p - 2 ^ i) (omega (arith, two_pow i)) (omega arith) in
      omega (arith, ap (bit both) e, a, b)

  now_bit : (p : ℕ) → p < 64 → has m p ≡ max (has l p) (bit both p)
  now_bit p lp =
      word_bit m p lp
      ∙ ap (λ (y : ℕ). bit y p) (get_or-set_same l 0 (bit_or word both) 0 (omega (arith, met.long)))
      ∙ bit_or_lem word both p
      ∙ ap (λ (y : ℕ). max y (bit both p)) (sym (word_bit l p lp))

  kept_bit : (p : ℕ) → p < 2 ^ i → has m p ≡ has l p
  kept_bit p lp = omega (arith, now_bit p (omega (arith, half, two_pow i)), low_bit p lp)

  -- a bit that was not there is there exactly if it is split
  fresh_bit : (p : ℕ) → 2 ^ i ≤ p → p < 64 → has m p ≡ bit both p
  fresh_bit p le lp = omega (arith, now_bit p lp, met.blank p le lp)

  abbrev split_set : List ℕ
  split_set = both ∷ []

  count_split : count_to m (2 ^ suc i) ≡ count_to m (2 ^ i) + count_to split_set 64
  count_split =
      let d : 2 ^ i + 2 ^ i ≡ 2 ^ suc i = omega (arith, two_pow i) in
      let e : 2 ^ suc i + (64 - 2 ^ suc i) ≡ 64 = omega (arith, half) in
      let none : count_to split_set (0 + 2 ^ i) ≡ count_to split_set 0 =
      count_none split_set 0 (2 ^ i) (λ p g lp. word_bit split_set p (omega (arith, half, two_pow i)) ∙ low_bit p (omega arith)) in
      let past : count_to split_set 64 ≡ count_to split_set (2 ^ suc i) =
      rw e at (count_none split_set (2 ^ suc i) (64 - 2 ^ suc i) (λ p g lp. word_bit split_set p (omega arith) ∙ high_bit p g (omega arith))) in
      let same : count_to m (2 ^ i + 2 ^ i) + count_to split_set (2 ^ i) ≡ count_to split_set (2 ^ i + 2 ^ i) + count_to m (2 ^ i) =
      count_same m split_set (2 ^ i) (2 ^ i) (λ p lp.
      let b : 2 ^ i + p < 64 = omega (arith, half, two_pow i) in
      fresh_bit (2 ^ i + p) (omega arith) b ∙ sym (word_bit split_set (2 ^ i + p) b)) in
      let z : 0 + 2 ^ i ≡ 2 ^ i = omega arith in
      omega (arith, none, count_le split_set 0, past, same, ap (count_to split_set) z, ap (count_to split_set) d, ap (count_to m) d)

  pub further_bits : {r : ℕ} → r ≡ count_to split_set 64 → Further i t l m r
  further_bits told = record {
    met = grown met (simp length-set met.long) kept_bit
        (λ c lc.
        let b : 2 ^ i + c < 64 = omega (arith, half, two_pow i) in
        fresh_bit (2 ^ i + c) (omega arith) b ∙ new_bit c b ∙ ap (λ (y : ℕ). min y (has t (2 ^ i + c))) (sym (kept_bit c lc)))
        (rw add-one (λ p g lp. fresh_bit p (omega (arith, two_pow i)) lp ∙ high_bit p g lp));
    kept = kept_bit;
    more = rw (add-one, told) count_split;
  }
