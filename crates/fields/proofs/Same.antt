-- Runs of bytes compared. Assumes nothing.
use Rattle.std.proofs.Common.{◌≡◌, ℕ, zero, suc, ◌+◌, ◌/◌, ◌<◌, ◌≤◌, min, Bool, true, false, cond, ◌&&◌, eqb, List, [], ◌∷◌, ◌++◌, length, get_or, take, drop, sym, refl, ap, ◌∙◌, subst, ap₂, add-zero, arith, length-drop, take-suc, eq-eqb, ne_eqb, eqb-true, bit_xor}
use Rattle.std.specs.Cmp.Lexicographic.{pointwise}
use mathlib.Core.Bool.{and-eq-true_iff}
use lib.Count.{count_trailing_zeros, trailing_of_zero, trailing_le}
use Rattle.fields.specs.Bytes.{same_bytes, shared_bytes}
use Rattle.fields.specs.Inside.{Digits, BeginAlike}
use Rattle.fields.proofs.Parts.{headed}
use Rattle.fields.proofs.Words.{digits_below}

-- the library's word for `==` of slices
pub same_pointwise : (x y : List ℕ) → pointwise eqb x y ≡ same_bytes x y
unfolding same_bytes
same_pointwise [] [] = refl
same_pointwise [] (b ∷ y) = refl
same_pointwise (a ∷ x) [] = refl
same_pointwise (a ∷ x) (b ∷ y) = ap (λ (t : Bool). eqb a b && t) (same_pointwise x y)

-- ---- lists that begin alike

-- what is the same up to n, and at the m places from there on, is the same up to n + m
take_more : (x y : List ℕ) (n m : ℕ) → n + m ≤ length x → n + m ≤ length y → take n x ≡ take n y → ((k : ℕ) → k < m → get_or x (n + k) 0 ≡ get_or y (n + k) 0)
    → take (n + m) x ≡ take (n + m) y
take_more x y n zero h l e f = rw (add-zero n) e
take_more x y n (suc m) h l e f =
    let z : n + suc m ≡ suc (n + m) = omega arith in
    let d = take_more x y n m (omega arith) (omega arith) e (λ k g. f k (omega arith)) in
    rw z (take-suc x (n + m) 0 (omega arith)
    ∙ ap₂ (λ (t : List ℕ) (c : ℕ). t ++ (c ∷ [])) d (f m (omega arith))
    ∙ sym (take-suc y (n + m) 0 (omega arith)))

pub alike_none : (x y : List ℕ) → BeginAlike x y 0
alike_none x y = record { left = omega arith; right = omega arith; same = refl }

module _ {x y : List ℕ} {n : ℕ} (a : BeginAlike x y n) where
  module _ {w v : ℕ} (d : Digits (λ k. get_or x (n + k) 0) w) (b : Digits (λ k. get_or y (n + k) 0) v) (h : n + 8 ≤ length x) (l : n + 8 ≤ length y) where
    -- up to the first of the next eight that differ, by their numbers
    pub alike_below : BeginAlike x y (n + count_trailing_zeros 64 (bit_xor w v) / 8)
    alike_below =
        let most = trailing_le 64 (bit_xor w v) in
        let r = count_trailing_zeros 64 (bit_xor w v) / 8 in
        let left : n + r ≤ length x = omega arith in
        let right : n + r ≤ length y = omega arith in
        record { left = left; right = right; same = take_more x y n r left right a.same (digits_below d b) }

    -- eight places further, where none differs
    pub alike_eight : bit_xor w v ≡ 0 → BeginAlike x y (n + 8)
    alike_eight e =
        let all : n + count_trailing_zeros 64 (bit_xor w v) / 8 ≡ n + 8 = omega (arith, ap (count_trailing_zeros 64) e, trailing_of_zero 64) in
        subst (BeginAlike x y) all alike_below

  -- one place further, by its bytes
  pub alike_one : get_or x n 0 ≡ get_or y n 0 → n + 1 ≤ length x → n + 1 ≤ length y → BeginAlike x y (n + 1)
  alike_one e h l = record { left = h; right = l; same = take_more x y n 1 h l a.same (λ k g. let z : n + k ≡ n = omega arith in rw z e) }

-- ---- how many bytes both share

pub shared_rest : (a b : ℕ) (x y : List ℕ) → a ≡ b → shared_bytes (a ∷ x) (b ∷ y) ≡ suc (shared_bytes x y)
unfolding shared_bytes
shared_rest a b x y e = rw (eq-eqb a b e)

pub shared_other : (a b : ℕ) (x y : List ℕ) → (a ≡ b → ⊥) → shared_bytes (a ∷ x) (b ∷ y) ≡ 0
unfolding shared_bytes
shared_other a b x y f = rw (ne_eqb a b f)

shared_none : (x y : List ℕ) → min (length x) (length y) ≡ 0 → shared_bytes x y ≡ 0
unfolding shared_bytes
shared_none [] y h = refl
shared_none (a ∷ x) [] h = refl
shared_none (a ∷ x) (b ∷ y) h = absurd (omega arith)

shared_behind : (x y : List ℕ) (n : ℕ) → n ≤ length x → n ≤ length y → take n x ≡ take n y → shared_bytes x y ≡ n + shared_bytes (drop n x) (drop n y)
shared_behind x y zero h l e = omega arith
shared_behind [] y (suc n) h l e = absurd (omega arith)
shared_behind (a ∷ x) [] (suc n) h l e = absurd (omega arith)
shared_behind (a ∷ x) (b ∷ y) (suc n) h l e =
    let head : a ≡ b = ap (λ (t : List ℕ). get_or t 0 0) e in
    omega (arith, shared_rest a b x y head, shared_behind x y n (omega arith) (omega arith) (ap (drop 1) e))

module _ {x y : List ℕ} {n : ℕ} (a : BeginAlike x y n) where
  behind : shared_bytes x y ≡ n + shared_bytes (drop n x) (drop n y)
  behind = shared_behind x y n a.left a.right a.same

  pub shared_stop : n < length x → n < length y → (get_or x n 0 ≡ get_or y n 0 → ⊥) → shared_bytes x y ≡ n
  shared_stop h l f =
      let z : shared_bytes (drop n x) (drop n y) ≡ 0 =
      rw (headed x n h, headed y n l) (shared_other (get_or x n 0) (get_or y n 0) (drop (n + 1) x) (drop (n + 1) y) f) in
      omega (arith, behind, z)

  pub shared_end : min (length x) (length y) ≤ n → shared_bytes x y ≡ n
  shared_end h =
      let z = shared_none (drop n x) (drop n y) (omega (arith, length-drop n x, length-drop n y)) in
      omega (arith, behind, z)

-- the bytes both share are in both
pub shared_both : (x y : List ℕ) → shared_bytes x y ≤ min (length x) (length y)
unfolding shared_bytes
shared_both [] y = omega arith
shared_both (a ∷ x) [] = omega arith
shared_both (a ∷ x) (b ∷ y) = go (eqb a b) (shared_both x y)
  where
    go : (t : Bool) → shared_bytes x y ≤ min (length x) (length y) → cond t (suc (shared_bytes x y)) 0 ≤ min (suc (length x)) (suc (length y))
    go true h = omega arith
    go false h = omega arith

-- ---- what the answer tells

pub same_true : (x y : List ℕ) → same_bytes x y ≡ true → x ≡ y
unfolding same_bytes
same_true [] [] e = refl
same_true [] (b ∷ y) e = cc
same_true (a ∷ x) [] e = cc
same_true (a ∷ x) (b ∷ y) e =
    let k = (and-eq-true_iff (eqb a b) (same_bytes x y)).0 e in
    ap₂ (λ (c : ℕ) (l : List ℕ). c ∷ l) (eqb-true a b k.0) (same_true x y k.1)

pub same_self : (x : List ℕ) → same_bytes x x ≡ true
unfolding same_bytes
same_self [] = refl
same_self (a ∷ x) = rw (eq-eqb a a refl) (same_self x)

pub same_false : (x y : List ℕ) → same_bytes x y ≡ false → x ≡ y → ⊥
same_false x y e k = let z : ◌≡◌ {A = ℕ} 0 1 = cc (same_self x) in omega arith
