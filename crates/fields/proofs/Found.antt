-- Looking for a byte. What is passed is not the byte; so where the search stops is the first place that is. Assumes nothing.
use Rattle.std.proofs.Common.{◌≡◌, ℕ, zero, suc, ◌+◌, ◌-◌, ◌/◌, ◌^◌, ◌<◌, ◌≤◌, ◌⊎◌, List, length, get_or, ap, ◌∙◌, inl, inr, ⊎_elim, arith}
use lib.Count.{count_trailing_zeros, trailing_of_zero}
use Rattle.fields.specs.Bytes.{FirstAt}
use Rattle.fields.specs.Inside.{FirstOf}
use Rattle.fields.proofs.Words.{zeros_some}

-- ---- from place to place

-- from `from` up to i there is no m
pub record Passed (s : List ℕ) (m from i : ℕ) : Type 0 where
  pub low : from ≤ i
  pub none : (k : ℕ) → k < i → from ≤ k → get_or s k 0 ≡ m → ⊥

side : (k i : ℕ) → (k < i) ⊎ (i ≤ k)
side k zero = inr (omega arith)
side zero (suc i) = inl (omega arith)
side (suc k) (suc i) = ⊎_elim (λ h. inl (omega arith)) (λ h. inr (omega arith)) (side k i)

pub passed_none : (s : List ℕ) (m from : ℕ) → Passed s m from from
passed_none s m from = record { low = omega arith; none = λ k l h. absurd (omega arith) }

passed_more : {s : List ℕ} {m from i : ℕ} (n : ℕ) → Passed s m from i → ((k : ℕ) → k < n → get_or s (i + k) 0 ≡ m → ⊥) → Passed s m from (i + n)
passed_more {s} {i = i} n p f = record {
  low = let l = p.low in omega arith;
  none = λ k b h e.
      let at : i ≤ k → i + (k - i) ≡ k = λ l. omega arith in
      ⊎_elim (λ near. p.none k near h e) (λ far. f (k - i) (omega arith) (ap (λ (j : ℕ). get_or s j 0) (at far) ∙ e)) (side k i);
}

pub first_later : {s : List ℕ} {m from i r : ℕ} → Passed s m from i → FirstAt s m i r → FirstAt s m from r
first_later {i = i} {r = r} p f = record {
  high = f.high;
  clear = λ k b h e. ⊎_elim (λ near. p.none k near h e) (λ far. f.clear k b far e) (side k i);
  here = λ b. (let l = p.low in let at : i ≤ r = (f.here b).0 in omega arith, (f.here b).1);
}

pub first_none : {s : List ℕ} {m from i : ℕ} → Passed s m from i → length s ≤ i → FirstAt s m from (length s)
first_none p end = record { high = omega arith; clear = λ k l h. p.none k (omega arith) h; here = λ l. absurd (omega arith) }

-- ---- eight bytes at once, by their marks t

module _ {s : List ℕ} {m from i : ℕ} (t : ℕ) (p : Passed s m from i) (f : FirstOf (λ k. get_or s (i + k) 0) m 8 (count_trailing_zeros 64 t / 8)) where
  pub passed_eight : t ≡ 0 → Passed s m from (i + 8)
  passed_eight e = passed_more 8 p (λ k b. f.clear k (omega (arith, ap (count_trailing_zeros 64) e, trailing_of_zero 64)))

  pub first_near : (t ≡ 0 → ⊥) → t < 2 ^ 64 → i + 8 ≤ length s → FirstAt s m from (i + count_trailing_zeros 64 t / 8)
  first_near ne l h =
      let lz : count_trailing_zeros 64 t < 64 = zeros_some 64 t ne l in
      let q = passed_more (count_trailing_zeros 64 t / 8) p f.clear in
      record { high = omega arith; clear = q.none; here = λ b. (q.low, f.here (omega arith)) }
