-- Where the marks of a table end: behind which feature no word of it has a bit, and that the first word of a set stands for all where the words behind
-- the first mark nothing. Assumes nothing.
use mathlib.Core.Path.{◌≡◌, sym, ap, ◌∙◌}
use mathlib.Core.List.{List}
use mathlib.Core.Bool.{true, false}
use Prim.Native.Nat.{ℕ, zero, suc, ◌+◌, ◌-◌, ◌*◌, ◌/◌, ◌%◌, ◌^◌, ◌<◌, ◌≤◌, min}
use native.Mathlib.Omega.{arith}
use native.Mathlib.Decide.{dec_lt}
use borrow.Author.Tests.{eq-eqb, ne_eqb}
use lib.Bits.{bit_or}
use lib.Dec.{eqb}
use lib.ListN.{get_or, length, set}
use lib.Pow.{pow-add, pow_mono}
use lib.Seq.{get_or-set_same, get_or-set_other}
use Rattle.products.specs.Sets.{bit, has}
use Rattle.products.proofs.Bits.{bit_or_lem, past_bit, zero_bit}
use Rattle.products.proofs.Laws.{has_le, has_at}
use Rattle.splitting.specs.Splitting.{in_set}
use Rattle.splitting.specs.Inside.{free_of, Within, Tells, Word, Ends, Later, Typical}
use Rattle.splitting.proofs.Laws.{free_at}
use Rattle.splitting.proofs.Marks.{two_pow, told, Made}
use Rattle.splitting.proofs.Typical.{typical_first}

-- a feature from m on is not marked
pub blank_mark : {m n k c : ℕ} {s t : List ℕ} → Ends m n s t → m ≤ k → k < n → c < 2 ^ k → in_set t (2 ^ k + c) ≡ false
blank_mark {m} {n} {k} {c} {s} {t} ends le l lc =
    let z : has t (2 ^ k + c) ≡ 0 =
    ends.blank (2 ^ k + c) (omega (arith, pow_mono {i = m} {j = k} le)) (omega (arith, two_pow k, pow_mono {i = suc k} {j = n} (omega arith))) in
    ne_eqb (has t (2 ^ k + c)) 1 (λ e. omega arith)

-- ---- words without a bit

-- x is 0 only where the words of t from w on, and before v, have no bit
pub record Joined (t : List ℕ) (w x v : ℕ) : Type 0 where
  pub none : ((k : ℕ) → bit x k ≡ 0) → (u : ℕ) → w ≤ u → u < v → (k : ℕ) → bit (get_or t u 0) k ≡ 0

pub joined_one : (t : List ℕ) (w : ℕ) → Joined t w (get_or t w 0) (suc w)
joined_one t w = record { none = λ h u a l k. let e : u ≡ w = omega arith in rw e (h k) }

pub joined_more : {t : List ℕ} {w x v : ℕ} → Joined t w x v → Joined t w (bit_or x (get_or t v 0)) (suc v)
joined_more {t} {w} {x} {v} h = record { none = λ z u a l. go z u a l (dec_lt u v) }
  where
    go : ((k : ℕ) → bit (bit_or x (get_or t v 0)) k ≡ 0) → (u : ℕ) → w ≤ u → u < suc v → Dec (u < v) → (k : ℕ) → bit (get_or t u 0) k ≡ 0
    go z u a l (yes lt) k = h.none (λ k. omega (arith, z k, bit_or_lem x (get_or t v 0) k)) u a lt k
    go z u a l (no ge) k = let e : u ≡ v = omega arith in rw e (omega (arith, z k, bit_or_lem x (get_or t v 0) k))

-- the words of t from w on have no bit
pub record Gone (t : List ℕ) (w : ℕ) : Type 0 where
  pub none : (u : ℕ) → w ≤ u → u < 16 → (k : ℕ) → bit (get_or t u 0) k ≡ 0

pub gone_none : (t : List ℕ) → Gone t 16
gone_none t = record { none = λ u a l k. absurd (omega arith) }

pub gone_more : {t : List ℕ} {w x v : ℕ} → Gone t v → Joined t w x v → x ≤ 0 → Gone t w
gone_more {t} {w} {x} {v} h j z = record { none = λ u a l. go u a l (dec_lt u v) }
  where
    go : (u : ℕ) → w ≤ u → u < 16 → Dec (u < v) → (k : ℕ) → bit (get_or t u 0) k ≡ 0
    go u a l (yes lt) = let e : x ≡ 0 = omega arith in j.none (λ k. rw e (zero_bit k)) u a lt
    go u a l (no ge) = h.none u (omega arith) l

pub gone_within : {t : List ℕ} {w r : ℕ} → Gone t w → 2 ^ r ≡ w * 64 → Within r t
unfolding has
gone_within {t} {w} {r} h e = record { few = λ p l le. h.none (p / 64) (omega arith) (omega arith) (p % 64) }

-- the words of a table that tell of feature 9, then of 8, 7 and 6
module _ (t : List ℕ) where
  abbrev word : ℕ → ℕ
  word w = get_or t w 0

  pub gone_nine : bit_or (bit_or (bit_or (bit_or (bit_or (bit_or (bit_or (word 8) (word 9)) (word 10)) (word 11)) (word 12)) (word 13)) (word 14)) (word 15) ≤ 0
      → Gone t 8
  gone_nine z =
      gone_more (gone_none t)
      (joined_more (joined_more (joined_more (joined_more (joined_more (joined_more (joined_more (joined_one t 8)))))))) z

  pub gone_eight : Gone t 8 → bit_or (bit_or (bit_or (word 4) (word 5)) (word 6)) (word 7) ≤ 0 → Gone t 4
  gone_eight h z = gone_more h (joined_more (joined_more (joined_more (joined_one t 4)))) z

  pub gone_seven : Gone t 4 → bit_or (word 2) (word 3) ≤ 0 → Gone t 2
  gone_seven h z = gone_more h (joined_more (joined_one t 2)) z

  pub gone_six : Gone t 2 → word 1 ≤ 0 → Gone t 1
  gone_six h z = gone_more h (joined_one t 1) z

-- ---- the words behind the first

-- the products of six features are all in the first word
typical_few : {n : ℕ} {s : List ℕ} → Within n s → n ≤ 6 → Typical (get_or s 0 0) s
typical_few {n} {s} h ln = typical_first s go
  where
    past : (w j : ℕ) → suc w < 16 → j < 64 → bit (get_or s (suc w) 0) j ≡ 0
    past w j lw lj =
        sym (has_at s (suc w) j lj) ∙ h.few (suc w * 64 + j) (omega arith) (omega (arith, pow_mono {i = n} {j = 6} ln))

    go : (w j k : ℕ) → w < 16 → j < 64 → k < 64 → bit (get_or s 0 0) j ≡ bit (get_or s 0 0) k → bit (get_or s w 0) j ≡ bit (get_or s w 0) k
    go zero j k lw lj lk e = e
    go (suc w) j k lw lj lk e = past w j lw lj ∙ sym (past w k lw lk)

-- where none of the words behind the first has a bit, the first word stands for all
module _ {s t : List ℕ} (made : Made s t 16) where
  made_free : (i c : ℕ) → 6 ≤ i → i < 10 → c < 2 ^ i → eqb (has t (2 ^ i + c)) 0 ≡ free_of s i c
  unfolding has
  made_free i c le li lc =
      let p = 2 ^ i + c in
      let b : p < 1024 = omega (arith, two_pow i, pow_mono {i = suc i} {j = 10} (omega arith)) in
      let a : 64 ≤ p = omega (arith, pow_mono {i = 6} {j = i} le) in
      (made.words (p / 64) (omega arith) (omega arith)).tells i c (p % 64) lc (omega arith) (omega arith)

  module _ (none : Within 6 t) where
    -- feature i, from 6 on, does not matter
    made_same : (i c : ℕ) → 6 ≤ i → i < 10 → c < 2 ^ i → has s (2 ^ i + c) ≡ has s c
    made_same i c le li lc =
        let p : ℕ = 2 ^ i + c in
        let z : has t p ≡ 0 =
        none.few p (omega (arith, two_pow i, pow_mono {i = suc i} {j = 10} (omega arith))) (omega (arith, pow_mono {i = 6} {j = i} le)) in
        let e : free_of s i c ≡ true = sym (made_free i c le li lc) ∙ eq-eqb (has t p) 0 z in
        let a : c + (2 * 0 + 1) * 2 ^ i ≡ 2 ^ i + c = omega arith in
        let b : c + 2 * 0 * 2 ^ i ≡ c = omega arith in
        let h : in_set s (c + (2 * 0 + 1) * 2 ^ i) ≡ in_set s (c + 2 * 0 * 2 ^ i) =
        free_at (λ q. in_set s (c + q * 2 ^ i)) (9 - i) e 0 (omega (arith, pow_mono {i = 0} {j = 9 - i} (omega arith))) in
        told (has s (2 ^ i + c)) (has s c) (has_le s (2 ^ i + c)) (has_le s c) (rw (a, b) at h)

    -- so it is the first word over again
    folded : (d : ℕ) → d ≤ 4 → (p : ℕ) → p < 2 ^ (6 + d) → has s p ≡ has s (p % 64)
    folded zero le p l = let e : p ≡ p % 64 = omega arith in ap (has s) e
    folded (suc d) le p l = go (folded d (omega arith)) (dec_lt p (2 ^ (6 + d)))
      where
        go : ((p : ℕ) → p < 2 ^ (6 + d) → has s p ≡ has s (p % 64)) → Dec (p < 2 ^ (6 + d)) → has s p ≡ has s (p % 64)
        go ih (yes h) = ih p h
        go ih (no h) =
            let c : ℕ = p - 2 ^ (6 + d) in
            let e : p ≡ 2 ^ (6 + d) + c = omega arith in
            let up : 6 + suc d ≡ suc (6 + d) = omega arith in
            let lc : c < 2 ^ (6 + d) = omega (arith, two_pow (6 + d), ap (λ (x : ℕ). 2 ^ x) up) in
            let f : c % 64 ≡ p % 64 = omega (arith, pow-add 2 6 d) in
            ap (has s) e ∙ made_same (6 + d) c (omega arith) (omega arith) lc ∙ ih c lc ∙ ap (has s) f

    made_typical : Typical (get_or s 0 0) s
    made_typical = typical_first s (λ w j k lw lj lk e. first w j lw lj ∙ e ∙ sym (first w k lw lk))
      where
        first : (w j : ℕ) → w < 16 → j < 64 → bit (get_or s w 0) j ≡ bit (get_or s 0 0) j
        first w j lw lj =
            let a : (w * 64 + j) % 64 ≡ 0 * 64 + j = omega arith in
            sym (has_at s w j lj) ∙ folded 4 (omega arith) (w * 64 + j) (omega arith) ∙ ap (has s) a ∙ has_at s 0 j lj

-- six features have no bit behind the first word
pub later_none : {n : ℕ} {s t : List ℕ} → Within n s → n ≤ 6 → length t ≡ 16 → (n ≤ 6 → Typical (get_or s 0 0) s) × Later n n s t
later_none {n} {s} {t} within ln long = (
  (λ _. typical_few within ln),
  record {
    most = omega arith;
    least = omega arith;
    long = long;
    words = λ v a l b. absurd (omega (arith, pow_mono {i = n} {j = 6} ln));
    blank = λ p a b. absurd (omega arith);
  },
)

-- the words behind the first are made, and those from 2 ^ r on have no bit
pub later_all : {m n r w : ℕ} {s t : List ℕ} → Made s t w → 16 ≤ w → Within r t → 6 ≤ r → m ≡ min r n → 6 < n → n ≤ 10
    → (m ≤ 6 → Typical (get_or s 0 0) s) × Later m n s t
later_all {m} {n} {r} {w} {s} {t} made lw none least is many small =
    let e : w ≡ 16 = omega (arith, made.most) in
    let all : Made s t 16 = rw e at made in (
      (λ lm. let six : r ≡ 6 = omega arith in made_typical all (rw six at none)),
      record {
        most = omega arith;
        least = omega arith;
        long = made.long;
        words = λ v a l b. all.words v a l;
        blank = λ p a b. go p a b (dec_lt n r);
      },
    )
  where
    go : (p : ℕ) → 2 ^ m ≤ p → p < 2 ^ n → Dec (n < r) → has t p ≡ 0
    go p a b (yes h) = let e : m ≡ n = omega arith in absurd (omega (arith, ap (λ (x : ℕ). 2 ^ x) e))
    go p a b (no h) =
        let e : m ≡ r = omega arith in
        none.few p (omega (arith, pow_mono {i = n} {j = 10} small)) (omega (arith, ap (λ (x : ℕ). 2 ^ x) e))

-- ---- with the first word

module _ {m n x : ℕ} {s t : List ℕ} (later : Later m n s t) (first : Word s 0 x) (small : n ≤ 10) (within : Within n s) where
  abbrev table : List ℕ
  table = set t 0 x

  -- the bits of the first word, and of the others
  has_first : (p : ℕ) → p < 64 → has table p ≡ bit x p
  has_first p l =
      let e : p ≡ 0 * 64 + p = omega arith in
      ap (has table) e ∙ has_at table 0 p l ∙ ap (λ (y : ℕ). bit y p) (get_or-set_same t 0 x 0 (omega (arith, later.long)))

  has_later : (p : ℕ) → 64 ≤ p → has table p ≡ has t p
  unfolding has
  has_later p l = ap (λ (y : ℕ). bit y (p % 64)) (get_or-set_other t 0 (p / 64) x 0 (omega arith))

  -- all words in which the first n features have bits
  table_tells : Tells n s table
  unfolding has
  table_tells = record { tells = λ i c li lc. go i c li lc (dec_lt (2 ^ i + c) 64) }
    where
      go : (i c : ℕ) → i < n → c < 2 ^ i → Dec (2 ^ i + c < 64) → eqb (has table (2 ^ i + c)) 0 ≡ free_of s i c
      go i c li lc (yes l) = ap (λ (y : ℕ). eqb y 0) (has_first (2 ^ i + c) l) ∙ first.tells i c (2 ^ i + c) lc l (omega arith)
      go i c li lc (no l) =
          let p = 2 ^ i + c in
          let b : p < 2 ^ n = omega (arith, two_pow i, pow_mono {i = suc i} {j = n} (omega arith)) in
          let d : p < 1024 = omega (arith, pow_mono {i = n} {j = 10} small) in
          ap (λ (y : ℕ). eqb y 0) (has_later p (omega arith))
          ∙ (later.words (p / 64) (omega arith) (omega arith) (omega arith)).tells i c (p % 64) lc (omega arith) (omega arith)

  -- a later word marks a feature
  pub ends_late : 6 < m → (m ≤ n) × Ends m n s table
  ends_late l = (
    later.most,
    record {
      most = later.most;
      small = small;
      within = within;
      tells = table_tells;
      blank = λ p a b. has_later p (omega (arith, pow_mono {i = 6} {j = m} (omega arith))) ∙ later.blank p a b;
    },
  )

  -- only the first word marks any, and e tells how large it is
  pub ends_early : {r : ℕ} (e : ℕ) → x < 2 ^ 2 ^ e → r ≡ min e m → m ≤ 6 → (r ≤ n) × Ends r n s table
  ends_early {r} e lx is le = (
    omega (arith, later.most),
    record {
      most = omega (arith, later.most);
      small = small;
      within = within;
      tells = table_tells;
      blank = λ p a b. go p a b (dec_lt p (2 ^ m)) (dec_lt m e);
    },
  )
    where
      go : (p : ℕ) → 2 ^ r ≤ p → p < 2 ^ n → Dec (p < 2 ^ m) → Dec (m < e) → has table p ≡ 0
      go p a b (yes l) (yes h) = let q : r ≡ m = omega arith in absurd (omega (arith, ap (λ (y : ℕ). 2 ^ y) q))
      go p a b (yes l) (no h) =
          let q : r ≡ e = omega arith in
          let f : 2 ^ e ≤ p = omega (arith, ap (λ (y : ℕ). 2 ^ y) q) in
          has_first p (omega (arith, pow_mono {i = m} {j = 6} le)) ∙ past_bit (2 ^ e) p f x lx
      go p a b (no l) _ = has_later p (above (dec_lt n 6)) ∙ later.blank p (omega arith) b
        where
          above : Dec (n < 6) → 64 ≤ p
          above (yes h) = let q : n ≡ m = omega (arith, later.least, later.most) in absurd (omega (arith, ap (λ (y : ℕ). 2 ^ y) q))
          above (no h) = let q : m ≡ 6 = omega (arith, later.least) in omega (arith, ap (λ (y : ℕ). 2 ^ y) q)
