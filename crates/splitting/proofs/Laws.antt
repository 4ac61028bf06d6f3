-- The guard of a set: it means the set, two sets alike have one guard, and its features and nesting are bounded. The halves of a set are read by
-- the features left, the first of them the lowest bit. Assumes nothing.
use mathlib.Core.Path.{◌≡◌, refl, sym, ap, ap₂, ◌∙◌}
use mathlib.Core.Bool.{Bool, true, false, cond, ◌&&◌}
use Prim.Native.Nat.{ℕ, zero, suc, ◌+◌, ◌*◌, ◌/◌, ◌%◌, ◌^◌, ◌≤◌, ◌<◌}
use native.Mathlib.Omega.{arith}
use native.Mathlib.Nat.{two-pow-succ, pow-suc, div-div-eq-div-mul, div-one}
use native.Mathlib.Decide.{dec_lt}
use borrow.Author.Tests.{eqb-true, eqb-false}
use lib.Dec.{eqb}
use Rattle.guards.specs.Guard.{Guard, never, always, feature, choice, holds, nesting, Declared}
use Rattle.splitting.specs.Splitting.{with, without, alike, all, free, guard_of, Writes}

-- ---- truth values and tests

pub bool_ext : (a b : Bool) → (a ≡ true → b ≡ true) → (b ≡ true → a ≡ true) → a ≡ b
bool_ext true b f g = sym (f refl)
bool_ext false true f g = g refl
bool_ext false false f g = refl

and_left : (a b : Bool) → (a && b) ≡ true → a ≡ true
and_left true b e = refl
and_left false b e = e

and_right : (a b : Bool) → (a && b) ≡ true → b ≡ true
and_right true b e = e
and_right false true e = refl
and_right false false e = e

pub alike_eq : (a b : Bool) → alike a b ≡ true → a ≡ b
alike_eq true true e = refl
alike_eq true false e = sym e
alike_eq false true e = e
alike_eq false false e = refl

pub eq_alike : (a b : Bool) → a ≡ b → alike a b ≡ true
eq_alike true true e = refl
eq_alike true false e = sym e
eq_alike false true e = e
eq_alike false false e = refl

pub all_at : (t : ℕ → Bool) (n : ℕ) → all t n ≡ true → (k : ℕ) → k < n → t k ≡ true
unfolding all
all_at t zero e k l = absurd (omega arith)
all_at t (suc n) e k l = go (all_at t n (and_left (all t n) (t n) e) k) (dec_lt k n)
  where
    go : (k < n → t k ≡ true) → Dec (k < n) → t k ≡ true
    go ih (yes h) = ih h
    go ih (no h) = let q : k ≡ n = omega arith in rw q (and_right (all t n) (t n) e)

pub all_true : (t : ℕ → Bool) (n : ℕ) → ((k : ℕ) → k < n → t k ≡ true) → all t n ≡ true
unfolding all
all_true t zero h = refl
all_true t (suc n) h = rw (all_true t n (λ k l. h k (omega arith)), h n (omega arith)) refl

pub all_ext : (t u : ℕ → Bool) (n : ℕ) → ((k : ℕ) → k < n → t k ≡ u k) → all t n ≡ all u n
unfolding all
all_ext t u zero h = refl
all_ext t u (suc n) h = ap₂ ◌&&◌ (all_ext t u n (λ k l. h k (omega arith))) (h n (omega arith))

-- ---- halves

low : (k q : ℕ) → q < 2 ^ k → 2 * q < 2 ^ suc k
low k q l = omega (arith, two-pow-succ k)

high : (k q : ℕ) → q < 2 ^ k → 2 * q + 1 < 2 ^ suc k
high k q l = omega (arith, two-pow-succ k)

half : (k q : ℕ) → q < 2 ^ suc k → q / 2 < 2 ^ k
half k q l = omega (arith, two-pow-succ k)

-- the set does not depend on its first feature exactly if the halves are alike
pub free_of_lem : (f : ℕ → Bool) (k : ℕ) → ((q : ℕ) → q < 2 ^ k → with f q ≡ without f q) → free f k ≡ true
free_of_lem f k h = all_true (λ q. alike (with f q) (without f q)) (2 ^ k) (λ q l. eq_alike (with f q) (without f q) (h q l))

pub free_at : (f : ℕ → Bool) (k : ℕ) → free f k ≡ true → (q : ℕ) → q < 2 ^ k → with f q ≡ without f q
free_at f k e q l = alike_eq (with f q) (without f q) (all_at (λ q. alike (with f q) (without f q)) (2 ^ k) e q l)

-- ---- two sets alike have one guard, and it means them

-- two questions with the same answers below 2 ^ k have one guard
pub guard_ext : (k i : ℕ) (f h : ℕ → Bool) → ((q : ℕ) → q < 2 ^ k → f q ≡ h q) → guard_of i k f ≡ guard_of i k h
unfolding guard_of
guard_ext zero i f h e = ap (λ (b : Bool). cond b always never) (e 0 (omega arith))
guard_ext (suc k) i f h e =
    let w : guard_of (suc i) k (with f) ≡ guard_of (suc i) k (with h) = guard_ext k (suc i) (with f) (with h) (λ q l. e (2 * q + 1) (high k q l)) in
    let o : guard_of (suc i) k (without f) ≡ guard_of (suc i) k (without h) = guard_ext k (suc i) (without f) (without h) (λ q l. e (2 * q) (low k q l)) in
    let a : free f k ≡ free h k = all_ext _ _ (2 ^ k) (λ q l. ap₂ alike (e (2 * q + 1) (high k q l)) (e (2 * q) (low k q l))) in
    rw (w, o, a)

-- the guard holds in p where the question says yes to what p has of the features from i on
pub means : (k i : ℕ) (f : ℕ → Bool) (p q : ℕ) → p / 2 ^ i ≡ q → q < 2 ^ k → holds (guard_of i k f) p ≡ f q
unfolding guard_of holds
means zero i f p q e l = go (f 0) refl
  where
    go : (b : Bool) → f 0 ≡ b → holds (cond (f 0) always never) p ≡ f q
    go true h = let z : 0 ≡ q = omega arith in rw h (sym h ∙ ap f z)
    go false h = let z : 0 ≡ q = omega arith in rw h (sym h ∙ ap f z)
means (suc k) i f p q e l =
    let n : p / 2 ^ suc i ≡ q / 2 = ap (λ (x : ℕ). p / x) (pow-suc 2 i) ∙ sym (div-div-eq-div-mul p (2 ^ i) 2) ∙ ap (λ (x : ℕ). x / 2) e in
    let w = means k (suc i) (with f) p (q / 2) n (half k q l) in
    let o = means k (suc i) (without f) p (q / 2) n (half k q l) in
    go w o (eqb (q % 2) 1) refl (free f k) refl
  where
    go : holds (guard_of (suc i) k (with f)) p ≡ f (2 * (q / 2) + 1) → holds (guard_of (suc i) k (without f)) p ≡ f (2 * (q / 2))
        → (b : Bool) → eqb (q % 2) 1 ≡ b → (c : Bool) → free f k ≡ c
        → holds (cond (free f k) (guard_of (suc i) k (without f)) (choice (feature i) (guard_of (suc i) k (with f)) (guard_of (suc i) k (without f)))) p ≡ f q
    go w o true eb true ec =
        let z : 2 * (q / 2) + 1 ≡ q = omega (arith, eqb-true (q % 2) 1 eb) in
        rw ec (o ∙ sym (free_at f k ec (q / 2) (half k q l)) ∙ ap f z)
    go w o false eb true ec =
        let ne : (q % 2 ≡ 1 → ⊥) = eqb-false (q % 2) 1 eb in
        let z : 2 * (q / 2) ≡ q = omega arith in
        rw ec (o ∙ ap f z)
    go w o true eb false ec =
        let z : 2 * (q / 2) + 1 ≡ q = omega (arith, eqb-true (q % 2) 1 eb) in
        rw (ec, e, eb) (w ∙ ap f z)
    go w o false eb false ec =
        let ne : (q % 2 ≡ 1 → ⊥) = eqb-false (q % 2) 1 eb in
        let z : 2 * (q / 2) ≡ q = omega arith in
        rw (ec, e, eb) (o ∙ ap f z)

pub means_all : (n : ℕ) (f : ℕ → Bool) (p : ℕ) → p < 2 ^ n → holds (guard_of 0 n f) p ≡ f p
means_all n f p l = means n 0 f p p (div-one p) l

-- ---- the guard as which a set is written

pub writes_of : (n : ℕ) (P : ℕ → Type 0) (f : ℕ → Bool) → ((p : ℕ) → p < 2 ^ n → f p ≡ true → P p) → ((p : ℕ) → p < 2 ^ n → P p → f p ≡ true)
    → Writes n P (guard_of 0 n f)
writes_of n P f a b = record {
  form = guard_ext n 0 (holds (guard_of 0 n f)) f (λ q l. means_all n f q l);
  only = λ p l h. a p l (sym (means_all n f p l) ∙ h);
  every = λ p l h. means_all n f p l ∙ b p l h;
}

-- two guards that write one set are equal
pub writes_unique : (n : ℕ) (P Q : ℕ → Type 0) (g h : Guard) → Writes n P g → Writes n Q h
    → ((p : ℕ) → p < 2 ^ n → P p → Q p) → ((p : ℕ) → p < 2 ^ n → Q p → P p) → g ≡ h
writes_unique n P Q g h x y a b =
    sym x.form
    ∙ guard_ext n 0 (holds g) (holds h)
    (λ p l. bool_ext (holds g p) (holds h p) (λ e. y.every p l (a p l (x.only p l e))) (λ e. x.every p l (b p l (y.only p l e))))
    ∙ y.form

pub writes_as : (n : ℕ) (P Q : ℕ → Type 0) (g : Guard) → Writes n P g → ((p : ℕ) → p < 2 ^ n → P p → Q p) → ((p : ℕ) → p < 2 ^ n → Q p → P p) → Writes n Q g
writes_as n P Q g x a b = record { form = x.form; only = λ p l e. a p l (x.only p l e); every = λ p l q. x.every p l (b p l q) }

-- ---- its features and its nesting

pub guard_declared : (k i n : ℕ) (f : ℕ → Bool) → i + k ≤ n → Declared (guard_of i k f) n
unfolding guard_of Declared
guard_declared zero i n f le = go (f 0)
  where
    go : (b : Bool) → Declared (cond b always never) n
    go true = tt
    go false = tt
guard_declared (suc k) i n f le =
    go (guard_declared k (suc i) n (with f) (omega arith)) (guard_declared k (suc i) n (without f) (omega arith)) (free f k)
  where
    go : Declared (guard_of (suc i) k (with f)) n → Declared (guard_of (suc i) k (without f)) n → (b : Bool)
        → Declared (cond b (guard_of (suc i) k (without f)) (choice (feature i) (guard_of (suc i) k (with f)) (guard_of (suc i) k (without f)))) n
    go w o true = o
    go w o false = (omega arith, w, o)

pub guard_nesting : (k i : ℕ) (f : ℕ → Bool) → nesting (guard_of i k f) ≤ k
unfolding guard_of nesting
guard_nesting zero i f = go (f 0)
  where
    go : (b : Bool) → nesting (cond b always never) ≤ 0
    go true = omega arith
    go false = omega arith
guard_nesting (suc k) i f = go (guard_nesting k (suc i) (with f)) (guard_nesting k (suc i) (without f)) (free f k)
  where
    go : nesting (guard_of (suc i) k (with f)) ≤ k → nesting (guard_of (suc i) k (without f)) ≤ k → (b : Bool)
        → nesting (cond b (guard_of (suc i) k (without f)) (choice (feature i) (guard_of (suc i) k (with f)) (guard_of (suc i) k (without f)))) ≤ suc k
    go w o true = omega arith
    go w o false = omega arith

-- ---- "the empty set `0`, the full set `1`"

pub guard_empty : (k i : ℕ) (f : ℕ → Bool) → ((q : ℕ) → q < 2 ^ k → f q ≡ false) → guard_of i k f ≡ never
unfolding guard_of
guard_empty zero i f h = rw (h 0 (omega arith)) refl
guard_empty (suc k) i f h =
    let e : free f k ≡ true = free_of_lem f k (λ q l. h (2 * q + 1) (high k q l) ∙ sym (h (2 * q) (low k q l))) in
    rw e (guard_empty k (suc i) (without f) (λ q l. h (2 * q) (low k q l)))

pub guard_full : (k i : ℕ) (f : ℕ → Bool) → ((q : ℕ) → q < 2 ^ k → f q ≡ true) → guard_of i k f ≡ always
unfolding guard_of
guard_full zero i f h = rw (h 0 (omega arith)) refl
guard_full (suc k) i f h =
    let e : free f k ≡ true = free_of_lem f k (λ q l. h (2 * q + 1) (high k q l) ∙ sym (h (2 * q) (low k q l))) in
    rw e (guard_full k (suc i) (without f) (λ q l. h (2 * q) (low k q l)))
