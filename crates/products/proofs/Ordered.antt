-- Laws of the orders: of each, that it is total, that no two products stand before each other, and that it goes on; and of the features that the order
-- by features counts. Assumes nothing.
use mathlib.Core.Path.{◌≡◌, sym, ap, ◌∙◌}
use mathlib.Core.Logic.{◌⊎◌, inl, inr, ⊎_elim}
use Prim.Native.Nat.{ℕ, zero, suc, ◌+◌, ◌*◌, ◌/◌, ◌%◌, ◌^◌, ◌<◌, ◌≤◌}
use native.Mathlib.Nat.{eq-or-lt_of_le, div-div-eq-div-mul}
use native.Mathlib.Decide.{dec_lt}
use native.Mathlib.Omega.{arith}
use native.Mathlib.Numerals.{add-one}
use borrow.Author.Count.{below_none, below_more}
use lib.Pow.{pow-add}
use Rattle.products.specs.declared.Order.{Order}
use Rattle.products.specs.declared.Order.TheVariants.{Plainest, ByNumber}
use Rattle.products.specs.Sets.{bit}
use Rattle.products.specs.Orders.{bits, features, Plainer, fewer, as_many, Before}
use Rattle.products.proofs.Bits.{eq_bits, low_bits, zero_bit}

-- ---- the orders

-- who has no more features, and no larger number where they are as many, is plainer
pub plainer_by : {p q : ℕ} → features p ≤ features q → (features p ≡ features q → p ≤ q) → Plainer p q
plainer_by {p} {q} l f = ⊎_elim (λ e. as_many e (f e)) (λ k. fewer k) (eq-or-lt_of_le l)

pub plainer_few : {p q : ℕ} → Plainer p q → features p ≤ features q
plainer_few (fewer l) = omega arith
plainer_few (as_many e l) = omega arith

plainer_one : {p q : ℕ} → Plainer p q → Plainer q p → p ≡ q
plainer_one (fewer a) (fewer b) = omega arith
plainer_one (fewer a) (as_many e b) = omega arith
plainer_one (as_many e a) (fewer b) = omega arith
plainer_one (as_many e a) (as_many f b) = omega arith

plainer_on : {p q s : ℕ} → Plainer p q → Plainer q s → Plainer p s
plainer_on (fewer a) (fewer b) = fewer (omega arith)
plainer_on (fewer a) (as_many e b) = fewer (omega arith)
plainer_on (as_many e a) (fewer b) = fewer (omega arith)
plainer_on (as_many e a) (as_many f b) = as_many (omega arith) (omega arith)

pub rising_total : (p q : ℕ) → (p ≤ q) ⊎ (q ≤ p)
rising_total p q = by (dec_lt q p)
  where
    by : Dec (q < p) → (p ≤ q) ⊎ (q ≤ p)
    by (yes l) = inr (omega arith)
    by (no n) = inl (omega arith)

plainer_total : (p q : ℕ) → Plainer p q ⊎ Plainer q p
plainer_total p q = by (rising_total p q) (rising_total (features p) (features q))
  where
    by : (p ≤ q) ⊎ (q ≤ p) → (features p ≤ features q) ⊎ (features q ≤ features p) → Plainer p q ⊎ Plainer q p
    by (inl k) (inl l) = inl (plainer_by l (λ e. k))
    by (inl k) (inr l) = ⊎_elim (λ e. inl (as_many (sym e) k)) (λ z. inr (fewer z)) (eq-or-lt_of_le l)
    by (inr k) (inl l) = ⊎_elim (λ e. inr (as_many (sym e) k)) (λ z. inl (fewer z)) (eq-or-lt_of_le l)
    by (inr k) (inr l) = inr (plainer_by l (λ e. k))

-- of any two products one stands before the other
pub before_total : (o : Order) (p q : ℕ) → Before o p q ⊎ Before o q p
before_total Plainest p q = plainer_total p q
before_total ByNumber p q = rising_total p q

-- no two products stand before each other
abbrev pub Ordered : (ℕ → ℕ → Type 0) → Type 0
Ordered R = (p q : ℕ) → R p q → R q p → p ≡ q

pub before_one : (o : Order) → Ordered (Before o)
before_one Plainest p q a b = plainer_one a b
before_one ByNumber p q a b = omega arith

-- each stands where it stands
pub before_self : (o : Order) (p : ℕ) → Before o p p
before_self o p = ⊎_elim (λ b. b) (λ b. b) (before_total o p p)

pub before_on : (o : Order) (p q s : ℕ) → Before o p q → Before o q s → Before o p s
before_on Plainest p q s a b = plainer_on a b
before_on ByNumber p q s a b = omega arith

-- ---- the features of a product

-- of n bits no more than n are 1
pub bits_le : (x n : ℕ) → bits x n ≤ n
unfolding bits
bits_le x zero = omega arith
bits_le x (suc n) = omega (arith, bits_le x n)

no_bits : (x n : ℕ) → bits x n ≡ 0 → (k : ℕ) → k < n → bit x k ≡ 0
unfolding bits
no_bits x zero e k l = below_none (λ k. bit x k ≡ 0) k l
no_bits x (suc n) e k l = below_more (λ k. bit x k ≡ 0) n (no_bits x n (omega arith)) (omega arith) k (rw add-one l)

-- who has none is product 0
pub features_none : (p : ℕ) → p < 1024 → features p ≡ 0 → p ≡ 0
features_none p l e = eq_bits 10 p 0 l (omega arith) (λ k lk. no_bits p 10 e k lk ∙ sym (zero_bit k))

word_of : (w j : ℕ) → j < 64 → (w * 64 + j) / 64 ≡ w
word_of w j l = omega arith

high_bit : (w j i : ℕ) → j < 64 → bit (w * 64 + j) (6 + i) ≡ bit w i
high_bit w j i l =
    ap (λ (n : ℕ). n % 2) (rw (pow-add 2 6 i) (sym (div-div-eq-div-mul (w * 64 + j) 64 (2 ^ i)) ∙ ap (λ (n : ℕ). n / 2 ^ i) (word_of w j l)))

-- the features of a product are those of its place in its word, and those that all of the word have
pub features_split : (w j : ℕ) → j < 64 → features (w * 64 + j) ≡ bits j 6 + bits w 4
unfolding bits
features_split w j l =
    let a = low_bits w j 0 (omega arith) in
    let b = low_bits w j 1 (omega arith) in
    let c = low_bits w j 2 (omega arith) in
    let d = low_bits w j 3 (omega arith) in
    let e = low_bits w j 4 (omega arith) in
    let f = low_bits w j 5 (omega arith) in
    let g = high_bit w j 0 l in
    let h = high_bit w j 1 l in
    let i = high_bit w j 2 l in
    let k = high_bit w j 3 l in
    sums a b c d e f g h i k
  where
    sums : {a b c d e f g h i k a' b' c' d' e' f' g' h' i' k' : ℕ} → a ≡ a' → b ≡ b' → c ≡ c' → d ≡ d' → e ≡ e' → f ≡ f' → g ≡ g' → h ≡ h' → i ≡ i' → k ≡ k'
        → 0 + a + b + c + d + e + f + g + h + i + k ≡ 0 + a' + b' + c' + d' + e' + f' + (0 + g' + h' + i' + k')
    sums a b c d e f g h i k = omega arith
