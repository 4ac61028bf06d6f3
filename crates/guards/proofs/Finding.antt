-- The search for a name runs from the last row down: what the rows below i give is what all rows give, as long as none above names the bytes.
-- Assumes nothing.
use Rattle.std.proofs.Common.{Some, None, ◌≡◌, refl, sym, ap, ◌∙◌, Bool, true, false, cond, List, [], ◌∷◌, ◌⊎◌, inl, inr, ◌==◌, le-leb, ne_eqb, ℕ, zero, suc, ◌-◌, ◌≤◌, ◌<◌, arith, length, get_or}
use Rattle.std.proofs.lemmas.Bool.{lt-leb}
use Rattle.fields.specs.Bytes.{piece_of, same_bytes}
use Rattle.guards.specs.Reading.{number, names_of}

-- where the text has no such part, no bytes stand there
none_same : (x : List ℕ) → same_bytes [] x ≡ (length x == 0)
unfolding same_bytes
none_same [] = refl
none_same (b ∷ x) = rw (ne_eqb (length (b ∷ x)) 0 (λ e. omega arith))

pub outside : (s : List ℕ) (a e : ℕ) (x : List ℕ) → (e < a) ⊎ ((a ≤ e) × (length s < e)) → (length x == 0) ≡ same_bytes (piece_of s a e) x
unfolding piece_of
outside s a e x (inl l) = rw (lt-leb a e l, none_same x)
outside s a e x (inr (m, l)) = rw (le-leb a e m, lt-leb e (length s) l, none_same x)

-- the name in row k
abbrev pub row_name : List ℕ → List (List ℕ) → ℕ → List ℕ
row_name s t k = piece_of s (get_or (get_or t k []) 0 0) (get_or (get_or t k []) 1 0)

module _ (s : List ℕ) (t : List (List ℕ)) where
  pub names_length : (k : ℕ) → length (names_of s t k) ≡ k
  unfolding names_of
  names_length zero = refl
  names_length (suc k) = ap suc (names_length k)

  -- what is left to find below row i
  pub record Left (x : List ℕ) (n i : ℕ) : Type 0 where
    pub low : i ≤ n
    pub same : number (names_of s t n) x ≡ number (names_of s t i) x

  pub left_all : (x : List ℕ) {n i : ℕ} → i ≡ n → Left x n i
  left_all x e = record { low = omega arith; same = ap (λ (k : ℕ). number (names_of s t k) x) (sym e) }

  last : (x : List ℕ) (i : ℕ) → number (names_of s t (suc i)) x ≡ cond (same_bytes (row_name s t i) x) (Some i) (number (names_of s t i) x)
  unfolding names_of number
  last x i = ap (λ (k : ℕ). cond (same_bytes (row_name s t i) x) (Some k) (number (names_of s t i) x)) (names_length i)

module _ {s : List ℕ} {t : List (List ℕ)} {x : List ℕ} where
  pub left_here : {n : ℕ} (i : ℕ) {u : Bool} → Left s t x n i → 0 < i → u ≡ same_bytes (row_name s t (i - 1)) x → u ≡ true → Some (i - 1) ≡ number (names_of s t n) x
  left_here zero l m h k = absurd (omega arith)
  left_here (suc i) {u} l m h k =
      let z : suc i - 1 ≡ i = omega arith in
      let f : same_bytes (row_name s t i) x ≡ true = sym (rw z at h) ∙ k in
      rw z (sym (l.same ∙ last s t x i ∙ ap (λ (v : Bool). cond v (Some i) (number (names_of s t i) x)) f))

  pub left_less : {n : ℕ} (i : ℕ) {u : Bool} → Left s t x n i → 0 < i → u ≡ same_bytes (row_name s t (i - 1)) x → u ≡ false → Left s t x n (i - 1)
  left_less zero l m h k = absurd (omega arith)
  left_less (suc i) {u} l m h k =
      let z : suc i - 1 ≡ i = omega arith in
      let f : same_bytes (row_name s t i) x ≡ false = sym (rw z at h) ∙ k in
      let low = l.low in
      record {
        low = omega arith;
        same = rw z (l.same ∙ last s t x i ∙ ap (λ (v : Bool). cond v (Some i) (number (names_of s t i) x)) f);
      }

  pub left_none : {n : ℕ} (i : ℕ) → Left s t x n i → i ≤ 0 → None ≡ number (names_of s t n) x
  unfolding names_of number
  left_none zero l m = sym l.same
  left_none (suc i) l m = absurd (omega arith)
