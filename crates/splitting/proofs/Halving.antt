-- One step of the set writer: of the products that the choices made so far allow, those with feature i and those without it are such products again,
-- and the table tells whether the guard splits on feature i. Assumes nothing.
use mathlib.Core.Path.{◌≡◌, refl, sym, ap, ap₂, ◌∙◌}
use mathlib.Core.Bool.{Bool, true, false, cond}
use mathlib.Core.List.{List}
use Prim.Native.Nat.{ℕ, zero, suc, ◌+◌, ◌-◌, ◌*◌, ◌^◌, ◌≤◌, ◌<◌}
use native.Mathlib.Omega.{arith}
use native.Mathlib.Decide.{dec_lt}
use native.Mathlib.Nat.{mul-le-mul_right}
use lib.Dec.{eqb}
use lib.Pow.{pow-add, pow_mono}
use Rattle.products.specs.Sets.{has}
use Rattle.products.proofs.Laws.{has_le}
use Rattle.guards.specs.Guard.{Guard, feature, choice}
use Rattle.splitting.specs.Splitting.{in_set, with, without, free, guard_of}
use Rattle.splitting.specs.Inside.{free_of, Within, Tells, First}
use Rattle.splitting.proofs.Laws.{bool_ext, guard_ext, free_of_lem, free_at}
use Rattle.splitting.proofs.Marks.{two_pow, even_stride, odd_stride, marked_clear, marked_set}

-- the products that the choices c of the features before i allow, by the number of the features left
abbrev pub allowed : List ℕ → ℕ → ℕ → ℕ → Bool
allowed s i c q = in_set s (c + q * 2 ^ i)

module _ {s t : List ℕ} {n : ℕ} (small : n ≤ 10) (within : Within n s) (table : Tells n s t) where
  module _ {i c : ℕ} (left : i < n) (lc : c < 2 ^ i) where
    abbrev f : ℕ → Bool
    f = allowed s i c

    abbrev k : ℕ
    k = n - suc i

    -- ---- the halves

    with_half : (q : ℕ) → with f q ≡ allowed s (suc i) (c + 2 ^ i) q
    with_half q =
        let e : c + (2 * q + 1) * 2 ^ i ≡ c + 2 ^ i + q * 2 ^ suc i = omega (arith, odd_stride c q i) in
        ap (λ (x : ℕ). in_set s x) e

    without_half : (q : ℕ) → without f q ≡ allowed s (suc i) c q
    without_half q = ap (λ (x : ℕ). in_set s x) (even_stride c q i)

    -- ---- the features from n on do not matter

    below : (q : ℕ) → q < 2 ^ (9 - i) → q * 2 ^ suc i + 2 ^ suc i ≤ 1024
    below q l =
        let e : 9 - i + suc i ≡ 10 = omega arith in
        let a : suc q * 2 ^ suc i ≤ 2 ^ (9 - i) * 2 ^ suc i = mul-le-mul_right (2 ^ suc i) l in
        let b : 2 ^ 10 ≡ 2 ^ (9 - i) * 2 ^ suc i = ap (λ (x : ℕ). 2 ^ x) (sym e) ∙ pow-add 2 (9 - i) (suc i) in
        let d : suc q * 2 ^ suc i ≡ q * 2 ^ suc i + 2 ^ suc i = omega arith in
        omega arith

    past : (q : ℕ) → 2 ^ k ≤ q → 2 ^ n ≤ q * 2 ^ suc i
    past q le =
        let e : k + suc i ≡ n = omega arith in
        let a : 2 ^ k * 2 ^ suc i ≤ q * 2 ^ suc i = mul-le-mul_right (2 ^ suc i) le in
        let b : 2 ^ n ≡ 2 ^ k * 2 ^ suc i = ap (λ (x : ℕ). 2 ^ x) (sym e) ∙ pow-add 2 k (suc i) in
        omega arith

    none_past : (q : ℕ) → q < 2 ^ (9 - i) → 2 ^ k ≤ q → with f q ≡ without f q
    none_past q l le =
        let a : c + q * 2 ^ suc i + 2 ^ i < 1024 = omega (arith, below q l, two_pow i) in
        let b : 2 ^ n ≤ q * 2 ^ suc i = past q le in
        let e : c + (2 * q + 1) * 2 ^ i ≡ c + q * 2 ^ suc i + 2 ^ i = odd_stride c q i in
        let d : c + 2 * q * 2 ^ i ≡ c + q * 2 ^ suc i = even_stride c q i in
        ap (λ (x : ℕ). eqb x 1) (within.few (c + (2 * q + 1) * 2 ^ i) (omega arith) (omega arith) ∙ sym (within.few (c + 2 * q * 2 ^ i) (omega arith) (omega arith)))

    free_few : free_of s i c ≡ free f k
    free_few = bool_ext (free_of s i c) (free f k)
        (λ e. free_of_lem f k (λ q l. free_at f (9 - i) e q (omega (arith, pow_mono {i = k} {j = 9 - i} (omega arith)))))
        (λ e. free_of_lem f (9 - i) (λ q l. go e q l (dec_lt q (2 ^ k))))
      where
        go : free f k ≡ true → (q : ℕ) → q < 2 ^ (9 - i) → Dec (q < 2 ^ k) → with f q ≡ without f q
        go e q l (yes h) = free_at f k e q h
        go e q l (no h) = none_past q l (omega arith)

    -- ---- the guard

    left_one : n - i ≡ suc k
    left_one = omega arith

    abbrev later_guard : ℕ → Guard
    later_guard d = guard_of (suc i) k (allowed s (suc i) d)

    guard_with : guard_of (suc i) k (with f) ≡ later_guard (c + 2 ^ i)
    guard_with = guard_ext k (suc i) (with f) (allowed s (suc i) (c + 2 ^ i)) (λ q l. with_half q)

    guard_without : guard_of (suc i) k (without f) ≡ later_guard c
    guard_without = guard_ext k (suc i) (without f) (allowed s (suc i) c) (λ q l. without_half q)

    -- the guard, once it is known whether the set depends on feature i
    abbrev decided : Bool → Guard
    decided b = cond b (guard_of (suc i) k (without f)) (choice (feature i) (guard_of (suc i) k (with f)) (guard_of (suc i) k (without f)))

    told : eqb (has t (2 ^ i + c)) 0 ≡ free f k
    told = table.tells i c left lc ∙ free_few

    -- "splits on the first feature on which the set depends"
    pub split_guard : in_set t (2 ^ i + c) ≡ true → guard_of i (n - i) f ≡ choice (feature i) (later_guard (c + 2 ^ i)) (later_guard c)
    unfolding guard_of
    split_guard e =
        ap (λ (m : ℕ). guard_of i m f) left_one
        ∙ ap decided (sym told ∙ marked_set (has t (2 ^ i + c)) e)
        ∙ ap₂ (choice (feature i)) guard_with guard_without

    -- "by the same rule over the later features"
    pub skip_guard : in_set t (2 ^ i + c) ≡ false → guard_of i (n - i) f ≡ later_guard c
    unfolding guard_of
    skip_guard e =
        ap (λ (m : ℕ). guard_of i m f) left_one
        ∙ ap decided (sym told ∙ marked_clear (has t (2 ^ i + c)) (has_le t (2 ^ i + c)) e)
        ∙ guard_without

  -- features that the table does not mark
  pass_guard : (d i c : ℕ) → i + d ≤ n → c < 2 ^ i → ((k : ℕ) → i ≤ k → k < i + d → in_set t (2 ^ k + c) ≡ false)
      → guard_of i (n - i) (allowed s i c) ≡ guard_of (i + d) (n - (i + d)) (allowed s (i + d) c)
  pass_guard zero i c le lc none = let e : i + 0 ≡ i = omega arith in rw e refl
  pass_guard (suc d) i c le lc none =
      let e : i + suc d ≡ suc i + d = omega arith in
      skip_guard {i = i} {c = c} (omega arith) lc (none i (omega arith) (omega arith))
      ∙ rw e (pass_guard d (suc i) c (omega arith) (omega (arith, two_pow i)) (λ k a b. none k (omega arith) (omega arith)))

  pub first_guard : {i c j : ℕ} → First t n i c j → i ≤ j → j ≤ n → c < 2 ^ i
      → guard_of i (n - i) (allowed s i c) ≡ guard_of j (n - j) (allowed s j c)
  first_guard {i} {c} {j} h le lj lc =
      let e : i + (j - i) ≡ j = omega arith in
      rw e at (pass_guard (j - i) i c (omega arith) lc (λ k a b. h.passed k a (omega arith)))
