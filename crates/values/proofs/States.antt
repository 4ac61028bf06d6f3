-- States as decimal numbers: one law for each way that the digits go, and what the answer tells. Assumes nothing.
use Rattle.std.proofs.Common.{Option, Some, None, ◌≡◌, refl, sym, ap, ap₂, ◌∙◌, ◌⊎◌, inl, inr, ⊎_elim, Bool, true, false, cond, ◌&&◌, List, [], ◌∷◌, ℕ, ◌+◌, ◌-◌, ◌*◌, ◌/◌, ◌%◌, ◌≤◌, ◌<◌, length, arith, le-leb, eq-zero-or-pos, leb-true, leb}
use mathlib.Core.Bool.{and-eq-true_iff}
use native.Mathlib.Decide.{dec_lt}
use borrow.Author.Tests.{lt-leb}
use Rattle.text.specs.Text.{decimal}
use Rattle.text.proofs.Laws.{decimal_short, decimal_two}
use Rattle.fields.specs.Bytes.{is_digit, up_to63, read_state}

-- ---- one digit

module _ (a : ℕ) where
  pub one_good : {v : ℕ} → v ≡ a - 48 → 48 ≤ a → a ≤ 57 → Some v ≡ read_state (a ∷ [])
  unfolding read_state
  one_good e l h = rw (le-leb 48 a l, le-leb a 57 h, e)

-- ---- two digits

module _ (a b : ℕ) where
  pub two_none : a ≤ 48 → None ≡ read_state (a ∷ b ∷ [])
  unfolding read_state
  two_none h = rw (lt-leb 49 a (omega arith))

  pub two_over : 57 < a → None ≡ read_state (a ∷ b ∷ [])
  unfolding read_state
  two_over h = rw (le-leb 49 a (omega arith), lt-leb a 57 h)

  module _ (l : 48 < a) (h : a ≤ 57) where
    first : (leb 49 a && leb a 57) ≡ true
    first = rw (le-leb 49 a (omega arith), le-leb a 57 h)

    pub two_low : b < 48 → None ≡ read_state (a ∷ b ∷ [])
    unfolding read_state
    two_low m = rw (first, lt-leb 48 b m)

    pub two_high : 57 < b → None ≡ read_state (a ∷ b ∷ [])
    unfolding read_state
    two_high m = rw (first, le-leb 48 b (omega arith), lt-leb b 57 m)

  module _ (l : 48 < a) (h : a ≤ 57) (m : 48 ≤ b) (n : b ≤ 57) where
    made : read_state (a ∷ b ∷ []) ≡ up_to63 ((a - 48) * 10 + (b - 48))
    unfolding read_state
    made = rw (first l h, le-leb 48 b m, le-leb b 57 n)

    pub two_good : {v : ℕ} → v ≡ (a - 48) * 10 + (b - 48) → v ≤ 63 → Some v ≡ read_state (a ∷ b ∷ [])
    two_good e k = rw (e, made, le-leb ((a - 48) * 10 + (b - 48)) 63 (omega arith))

    pub two_large : 63 < (a - 48) * 10 + (b - 48) → None ≡ read_state (a ∷ b ∷ [])
    two_large k = rw (made, lt-leb ((a - 48) * 10 + (b - 48)) 63 k)

-- ---- no digit, or more than two

pub none_short : (s : List ℕ) → length s < 1 → None ≡ read_state s
unfolding read_state
none_short [] l = refl
none_short (a ∷ s) l = absurd (omega arith)

pub none_long : (s : List ℕ) → 3 ≤ length s → None ≡ read_state s
unfolding read_state
none_long [] l = absurd (omega arith)
none_long (a ∷ []) l = absurd (omega arith)
none_long (a ∷ b ∷ []) l = absurd (omega arith)
none_long (a ∷ b ∷ c ∷ s) l = refl

-- ---- from the digits

told : (t : Bool) (n : Option ℕ) (v : ℕ) → cond t n None ≡ Some v → (t ≡ true) × (n ≡ Some v)
told true n v e = (refl, e)
told false n v e = let z : ◌≡◌ {A = ℕ} 0 1 = cc in absurd (omega arith)

-- a byte that is read as v
pub digit : {a v : ℕ} → Some v ≡ read_state (a ∷ []) → (48 ≤ a) × (a ≤ 57) × (v ≡ a - 48)
unfolding read_state
digit {a} {v} e =
    let k = told (is_digit a) (Some (a - 48)) v (sym e) in
    let d = (and-eq-true_iff (leb 48 a) (leb a 57)).0 k.0 in
    let same : v ≡ a - 48 = cc in
    (leb-true 48 a d.0, leb-true a 57 d.1, same)

-- a byte that is no digit
outside : {a : ℕ} → None ≡ read_state (a ∷ []) → (a < 48) ⊎ (57 < a)
outside {a} e = go (dec_lt a 48) (dec_lt 57 a)
  where
    go : Dec (a < 48) → Dec (57 < a) → (a < 48) ⊎ (57 < a)
    go (yes l) h = inl l
    go (no n) (yes h) = inr h
    go (no n) (no m) = let z : ◌≡◌ {A = ℕ} 0 1 = cc (one_good a {v = a - 48} refl (omega arith) (omega arith)) in absurd (omega arith)

module _ (a b : ℕ) where
  pub none_first : None ≡ read_state (a ∷ []) → None ≡ read_state (a ∷ b ∷ [])
  none_first e = ⊎_elim (λ l. two_none a b (omega arith)) (λ h. two_over a b h) (outside e)

  pub none_second : {x : ℕ} → Some x ≡ read_state (a ∷ []) → None ≡ read_state (b ∷ []) → None ≡ read_state (a ∷ b ∷ [])
  none_second p e = let d = digit p in go d.0 d.1 (dec_lt 48 a) (outside e)
    where
      go : 48 ≤ a → a ≤ 57 → Dec (48 < a) → (b < 48) ⊎ (57 < b) → None ≡ read_state (a ∷ b ∷ [])
      go low high (no n) s = two_none a b (omega arith)
      go low high (yes l) (inl m) = two_low a b l high m
      go low high (yes l) (inr m) = two_high a b l high m

  module _ {x y : ℕ} (p : Some x ≡ read_state (a ∷ [])) (q : Some y ≡ read_state (b ∷ [])) where
    pub two_made : 10 ≤ x * 10 + y → x * 10 + y ≤ 63 → Some (x * 10 + y) ≡ read_state (a ∷ b ∷ [])
    two_made low high = let d = digit p in let e = digit q in two_good a b (omega arith) d.1 e.0 e.1 (omega arith) high

    pub two_first_none : x * 10 + y < 10 → None ≡ read_state (a ∷ b ∷ [])
    two_first_none l = let d = digit p in let e = digit q in two_none a b (omega arith)

    pub two_past : 63 < x * 10 + y → None ≡ read_state (a ∷ b ∷ [])
    two_past h = let d = digit p in let e = digit q in two_large a b (omega arith) d.1 e.0 e.1 (omega arith)

-- ---- exactly the decimal numbers up to 63

-- a state is one digit, or two with no zero in front
abbrev Spelled : List ℕ → ℕ → Type 0
Spelled x v = ((v < 10) × (x ≡ (v + 48) ∷ [])) ⊎ ((10 ≤ v) × (v ≤ 63) × (x ≡ (v / 10 + 48) ∷ (v % 10 + 48) ∷ []))

spelled : (x : List ℕ) (v : ℕ) → read_state x ≡ Some v → Spelled x v
unfolding read_state
spelled [] v e = let z : ◌≡◌ {A = ℕ} 0 1 = cc in absurd (omega arith)
spelled (a ∷ []) v e =
    let k = told (is_digit a) (Some (a - 48)) v e in
    let d = (and-eq-true_iff (leb 48 a) (leb a 57)).0 k.0 in
    let low = leb-true 48 a d.0 in
    let high = leb-true a 57 d.1 in
    let same : a - 48 ≡ v = cc in
    let x : a ≡ v + 48 = omega arith in
    inl (omega arith, ap (λ (c : ℕ). c ∷ []) x)
spelled (a ∷ b ∷ []) v e =
    let k = told (leb 49 a && leb a 57 && is_digit b) (up_to63 ((a - 48) * 10 + (b - 48))) v e in
    let m = told (leb ((a - 48) * 10 + (b - 48)) 63) (Some ((a - 48) * 10 + (b - 48))) v k.1 in
    let d = (and-eq-true_iff (leb 49 a && leb a 57) (is_digit b)).0 k.0 in
    let f = (and-eq-true_iff (leb 49 a) (leb a 57)).0 d.0 in
    let g = (and-eq-true_iff (leb 48 b) (leb b 57)).0 d.1 in
    let a-low = leb-true 49 a f.0 in
    let b-low = leb-true 48 b g.0 in
    let b-high = leb-true b 57 g.1 in
    let small = leb-true ((a - 48) * 10 + (b - 48)) 63 m.0 in
    let same : (a - 48) * 10 + (b - 48) ≡ v = cc in
    let x : a ≡ v / 10 + 48 = omega arith in
    let y : b ≡ v % 10 + 48 = omega arith in
    inr (omega arith, omega arith, ap₂ (λ (c d : ℕ). c ∷ d ∷ []) x y)
spelled (a ∷ b ∷ c ∷ x) v e = let z : ◌≡◌ {A = ℕ} 0 1 = cc in absurd (omega arith)

pub state_small : (x : List ℕ) {v : ℕ} → read_state x ≡ Some v → v ≤ 63
state_small x {v} e = ⊎_elim (λ h. omega arith) (λ h. h.1) (spelled x v e)

pub state_written : (x : List ℕ) {v : ℕ} → read_state x ≡ Some v → x ≡ decimal v
state_written x {v} e = ⊎_elim (λ h. h.1 ∙ sym (decimal_short v h.0)) (λ h. h.2 ∙ sym (decimal_two v h.0 (omega arith))) (spelled x v e)

pub read_written : (q : ℕ) → q < 64 → read_state (decimal q) ≡ Some q
read_written q h =
    ⊎_elim
    (λ z. rw (decimal_short q (omega arith)) (sym (one_good (q + 48) (omega arith) (omega arith) (omega arith))))
    (λ p. rw (decimal_two q (omega arith) (omega arith)) (sym (two_good (q / 10 + 48) (q % 10 + 48) (omega arith) (omega arith) (omega arith) (omega arith) (omega arith) (omega arith))))
    (eq-zero-or-pos (q - 9))
