-- Sets that are made word by word: what their members are by an operation on words, by one word throughout and by the first word alone. The rule of
-- a set of the code is one computed test over its 1,024 products. Assumes nothing.
use mathlib.Core.Path.{◌≡◌, sym, ◌∙◌}
use mathlib.Core.List.{List, ◌∷◌}
use mathlib.Core.Logic.{⊎_elim}
use Prim.Native.Nat.{ℕ, zero, suc, ◌+◌, ◌*◌, ◌/◌, ◌%◌, ◌^◌, ◌<◌, ◌≤◌}
use native.Mathlib.Omega.{arith}
use native.Mathlib.Nat.{eq-or-lt_of_le}
use denote.Param.Members.{Mut, Called}
use lib.Dec.{T, eqb, ltb, eqb→eq}
use lib.ListN.{get_or, replicate, get_or-replicate}
use Rattle.std.specs.Array.{IsFromFnResult, IsFromFnResultFrom}
use Rattle.products.specs.Sets.{bit, has, one_if}
use Rattle.products.proofs.Bits.{passes, passes_at, zero_bit, none_past}

-- what the calls at the places from i on made: each element has Q, where a state of which I holds leads to such an element and to such a state
module _ {F : Type 0} (g : Mut F (ℕ × Unit {0}) ℕ) (I : F → Type 0) (Q : ℕ → ℕ → Type 0)
    (step : (p : F) (i y : ℕ) (q : F) → I p → Called g p (i, tt) y q → I q × Q i y) where
  made_from : (f : F) (ys : List ℕ) (i n : ℕ) → I f → IsFromFnResultFrom g f ys i n → (k : ℕ) → i ≤ k → k < i + n → Q k (get_or ys k 0)
  made_from f ys i zero h r k le lt = absurd (omega arith)
  made_from f ys i (suc n) h (q, y, e, call, rest) k le lt =
      let s = step f i y q h call in
      ⊎_elim
      (λ same. rw (← same, e.1 0) s.1)
      (λ more. made_from q ys (i + 1) n s.0 rest k (omega arith) (omega arith))
      (eq-or-lt_of_le le)

  pub made : {f : F} (ys : List ℕ) {n : ℕ} → I f → IsFromFnResult g f ys n → (k : ℕ) → k < n → Q k (get_or ys k 0)
  made {f} ys {n} h r k lt = made_from f ys 0 n h r.each k (omega arith) (omega arith)

-- the same word throughout
pub all_alike : (f : ℕ → ℕ) (x : ℕ) → ((w k : ℕ) → k < 64 → bit x k ≡ f (w * 64 + k)) → (p : ℕ) → p < 1024 → has (replicate 16 x) p ≡ f p
unfolding has
all_alike f x e p lt =
    let whole : p / 64 * 64 + p % 64 ≡ p = omega arith in
    rw (get_or-replicate 16 (p / 64) x 0 (omega arith)) (rw whole at (e (p / 64) (p % 64) (omega arith)))

-- of six features or fewer only the first word has products
pub first_alone : {n : ℕ} (x : ℕ) → n ≤ 6 → ((k : ℕ) → k < 64 → bit x k ≡ one_if (ltb k (2 ^ n)))
    → (p : ℕ) → p < 1024 → has (x ∷ replicate 15 0) p ≡ one_if (ltb p (2 ^ n))
unfolding has
first_alone {n} x le e p lt =
    let whole : p / 64 * 64 + p % 64 ≡ p = omega arith in
    rw whole at (words (p / 64) (omega arith) (p % 64) (omega arith))
  where
    words : (w : ℕ) → w < 16 → (k : ℕ) → k < 64 → bit (get_or (x ∷ replicate 15 0) w 0) k ≡ one_if (ltb (w * 64 + k) (2 ^ n))
    words zero lw k lk = let d : 0 * 64 + k ≡ k = omega arith in rw d (e k lk)
    words (suc w) lw k lk = rw (get_or-replicate {A = ℕ} 15 w 0 0 (omega arith)) (zero_bit k ∙ sym (none_past 6 n le (suc w * 64 + k) (omega arith)))

-- a set of the code for the number n, whose members a computed test compares with those that f says
set_at : (f : ℕ → ℕ → ℕ) (s : List ℕ) (n : ℕ) {i : ℕ} → T (passes (λ p. eqb (bit (get_or s (p / 64) 0) (p % 64)) (f n p)) 1024)
    → i ≡ n → (p : ℕ) → p < 1024 → has s p ≡ f i p
unfolding has
set_at f s n test e p lp = rw e (eqb→eq (has s p) (f n p) (passes_at (λ p. eqb (has s p) (f n p)) 1024 test p lp))

-- the products that have feature n
pub feature_has : (s : List ℕ) (n : ℕ) {i : ℕ} → T (passes (λ p. eqb (bit (get_or s (p / 64) 0) (p % 64)) (bit p n)) 1024)
    → i ≡ n → (p : ℕ) → p < 1024 → has s p ≡ bit p i
feature_has = set_at (λ i p. bit p i)

-- all products of m features
pub all_has : (s : List ℕ) (m : ℕ) {n : ℕ} → T (passes (λ p. eqb (bit (get_or s (p / 64) 0) (p % 64)) (one_if (ltb p (2 ^ m)))) 1024)
    → n ≡ m → (p : ℕ) → p < 1024 → has s p ≡ one_if (ltb p (2 ^ n))
all_has = set_at (λ n p. one_if (ltb p (2 ^ n)))
