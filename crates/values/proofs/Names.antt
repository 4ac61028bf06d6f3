-- Names and actions: how the answer is found from place to place, and what it tells. Assumes nothing.
use Rattle.std.proofs.Common.{◌≡◌, refl, sym, ap, ◌∙◌, Bool, true, false, ◌&&◌, true≢false, List, [], ◌∷◌, ℕ, ◌+◌, ◌≤◌, ◌<◌, arith, le-leb, ne_eqb, length, get_or, drop, drop_of_length-le, leb-true, leb}
use mathlib.Core.Bool.{and_assoc, and-true, and-false, and-eq-true_iff}
use borrow.Author.Tests.{lt-leb}
use Rattle.fields.specs.Bytes.{is_letter, is_name_byte, all_name_bytes, is_name, is_action}
use Rattle.fields.specs.Cutting.{Clear}
use Rattle.fields.proofs.Parts.{headed}

-- ---- all of them name bytes, from place to place

-- what was found of the first i bytes, and what is left to find, tell it of all
pub record Found (s : List ℕ) (good : Bool) (i : ℕ) : Type 0 where
  pub high : i ≤ length s
  pub told : all_name_bytes s ≡ (good && all_name_bytes (drop i s))

pub found_none : (s : List ℕ) → Found s true 0
found_none s = record { high = omega arith; told = refl }

module _ {s : List ℕ} {good : Bool} {i : ℕ} (f : Found s good i) where
  pub found_more : {t : Bool} → i < length s → t ≡ is_name_byte (get_or s i 0) → Found s (good && t) (i + 1)
  unfolding all_name_bytes
  found_more {t} h e = record {
    high = omega arith;
    told =
        f.told
        ∙ ap (λ (l : List ℕ). good && all_name_bytes l) (headed s i h)
        ∙ ap (λ (u : Bool). good && (u && all_name_bytes (drop (i + 1) s))) (sym e)
        ∙ sym (and_assoc good t (all_name_bytes (drop (i + 1) s)));
  }

  pub found_all : length s ≤ i → good ≡ all_name_bytes s
  unfolding all_name_bytes
  found_all h = sym (f.told ∙ rw (drop_of_length-le s h) (and-true good))

-- ---- a feature name

pub name_none : (s : List ℕ) → length s ≡ 0 → false ≡ is_name s
unfolding is_name
name_none [] h = refl
name_none (b ∷ s) h = absurd (omega arith)

pub name_first : (s : List ℕ) → is_letter (get_or s 0 0) ≡ false → false ≡ is_name s
unfolding is_name
name_first [] e = refl
name_first (b ∷ s) e = ap (λ (t : Bool). t && (leb (length (b ∷ s)) 12 && all_name_bytes (b ∷ s))) (sym e)

pub name_long : (s : List ℕ) → 12 < length s → false ≡ is_name s
unfolding is_name
name_long [] h = refl
name_long (b ∷ s) h = sym (rw (lt-leb (length (b ∷ s)) 12 h) (and-false (is_letter b)))

pub name_good : (s : List ℕ) {r : Bool} → r ≡ all_name_bytes s → 0 < length s → length s ≤ 12 → is_letter (get_or s 0 0) ≡ true → r ≡ is_name s
unfolding is_name
name_good [] e n h l = absurd (omega arith)
name_good (b ∷ s) e n h l = e ∙ sym (ap (λ (t : Bool). t && (leb (length (b ∷ s)) 12 && all_name_bytes (b ∷ s))) l ∙ rw (le-leb (length (b ∷ s)) 12 h))

-- ---- an action

module _ (s : List ℕ) where
  pub action_short : length s < 1 → false ≡ is_action s
  unfolding is_action
  action_short h = rw (lt-leb 1 (length s) h)

  pub action_long : 24 < length s → false ≡ is_action s
  unfolding is_action
  action_long h = sym (rw (lt-leb (length s) 24 h) (and-false (leb 1 (length s))))

  pub action_good : {r : Bool} → r ≡ all_name_bytes s → 1 ≤ length s → length s ≤ 24 → r ≡ is_action s
  unfolding is_action
  action_good e n h = rw (le-leb 1 (length s) n, le-leb (length s) 24 h) e

-- ---- what the answers tell

pub name_names : (x : List ℕ) → is_name x ≡ true → all_name_bytes x ≡ true
unfolding is_name all_name_bytes
name_names [] e = refl
name_names (b ∷ x) e = ((and-eq-true_iff (leb (length (b ∷ x)) 12) (all_name_bytes (b ∷ x))).0 ((and-eq-true_iff (is_letter b) _).0 e).1).1

pub name_letter : (x : List ℕ) → is_name x ≡ true → (is_letter (get_or x 0 0) ≡ true) × (1 ≤ length x) × (length x ≤ 12)
unfolding is_name
name_letter [] e = let z : ◌≡◌ {A = ℕ} 0 1 = cc in absurd (omega arith)
name_letter (b ∷ x) e =
    let k = (and-eq-true_iff (is_letter b) (leb (length (b ∷ x)) 12 && all_name_bytes (b ∷ x))).0 e in
    (k.0, omega arith, leb-true (length (b ∷ x)) 12 ((and-eq-true_iff (leb (length (b ∷ x)) 12) (all_name_bytes (b ∷ x))).0 k.1).0)

pub action_names : (x : List ℕ) → is_action x ≡ true → (all_name_bytes x ≡ true) × (1 ≤ length x) × (length x ≤ 24)
unfolding is_action
action_names x e =
    let k = (and-eq-true_iff (leb 1 (length x)) (leb (length x) 24 && all_name_bytes x)).0 e in
    let l = (and-eq-true_iff (leb (length x) 24) (all_name_bytes x)).0 k.1 in
    (l.1, leb-true 1 (length x) k.0, leb-true (length x) 24 l.0)

-- no mark is a name byte
clear_of : (m : ℕ) → is_name_byte m ≡ false → (x : List ℕ) → all_name_bytes x ≡ true → Clear m x
unfolding all_name_bytes
clear_of m n [] e = tt
clear_of m n (b ∷ x) e =
    let k = (and-eq-true_iff (is_name_byte b) (all_name_bytes x)).0 e in
    (ne_eqb b m (λ z. true≢false (sym k.0 ∙ ap is_name_byte z ∙ n)), clear_of m n x k.1)

pub names_clear : (x : List ℕ) → all_name_bytes x ≡ true → Clear 9 x × Clear 10 x
names_clear x e = (clear_of 9 refl x e, clear_of 10 refl x e)
