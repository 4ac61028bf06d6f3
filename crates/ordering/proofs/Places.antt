-- The first place at which two lists differ decides which is before the other; halving finds the place of a row; and a row laid behind the others and turned to its place moves
-- those behind it on by one. Assumes nothing.
use Rattle.std.proofs.Common.{◌≡◌, Bool, true, false, ltb, ◌⊎◌, List, [], ◌∷◌, ◌++◌, ℕ, suc, ◌+◌, ◌-◌, ◌≤◌, ◌<◌, length, get_or, take, drop, set, refl, sym, ap, ◌∙◌, inl, inr, ⊎_elim, append_assoc, add-one, arith, length-append, length-drop, take-append-drop, length-take-le, get_or-take, take-take, take_at, drop_at, ne_eqb}
use mathlib.Core.Bool.{or-false}
use borrow.Rule.Slice.PartMut.{mid_of, put_mid}
use lib.Seq.{set_split}
use Rattle.fields.specs.Bytes.{shared_bytes}
use Rattle.fields.proofs.Same.{shared_rest, shared_other, shared_both}
use Rattle.ordering.specs.Ordering.{less_bytes, insert_by}
use Rattle.ordering.specs.Inside.{Level, Between}
use Rattle.ordering.proofs.Laws.{never, compared, less_rest, less_near, insert_at}

-- ---- comparing

less_head : (a b : ℕ) (x y : List ℕ) → (a ≡ b → ⊥) → less_bytes (a ∷ x) (b ∷ y) ≡ ltb a b
unfolding less_bytes
less_head a b x y f = rw (ne_eqb a b f) (or-false (ltb a b))

-- what x is not before, and y not before z, x is not before z
less_far : (x y z : List ℕ) → less_bytes x y ≡ false → less_bytes y z ≡ false → less_bytes x z ≡ false
less_far x y z h g = decided (less_bytes x z) refl
  where
    decided : (t : Bool) → less_bytes x z ≡ t → less_bytes x z ≡ false
    decided true e = absurd (never (less_near x z y e g) h)
    decided false e = e

-- r is whether x comes before y, if n is how many bytes both share: it is told by which of them ends there, and else by the bytes there
record Decided (x y : List ℕ) (n : ℕ) (r : Bool) : Type 0 where
  short : length y ≤ n → false ≡ r
  long : length x ≤ n → n < length y → true ≡ r
  stop : n < length x → n < length y → ltb (get_or x n 0) (get_or y n 0) ≡ r

decided_more : (a b : ℕ) {x y : List ℕ} {n : ℕ} {r : Bool} → Decided x y n r → Decided (a ∷ x) (b ∷ y) (suc n) r
decided_more a b d = record {
  short = λ h. d.short (omega arith);
  long = λ h l. d.long (omega arith) (omega arith);
  stop = λ h l. d.stop (omega arith) (omega arith);
}

decided_head : (a b : ℕ) (x y : List ℕ) → (a ≡ b → ⊥) → Decided (a ∷ x) (b ∷ y) (shared_bytes (a ∷ x) (b ∷ y)) (less_bytes (a ∷ x) (b ∷ y))
decided_head a b x y f = rw (shared_other a b x y f) (record {
  short = λ h. absurd (omega arith);
  long = λ h l. absurd (omega arith);
  stop = λ h l. sym (less_head a b x y f);
})

decided : (x y : List ℕ) → Decided x y (shared_bytes x y) (less_bytes x y)
unfolding less_bytes
decided [] [] = record { short = λ h. refl; long = λ h l. absurd (omega arith); stop = λ h l. absurd (omega arith) }
decided [] (b ∷ y) = record {
  short = λ h. absurd (omega (arith, shared_both [] (b ∷ y)));
  long = λ h l. refl;
  stop = λ h l. absurd (omega arith);
}
decided (a ∷ x) [] = record {
  short = λ h. refl;
  long = λ h l. absurd (omega arith);
  stop = λ h l. absurd (omega arith);
}
decided (a ∷ x) (b ∷ y) =
    ⊎_elim
    (λ l. decided_head a b x y (λ e. omega arith))
    (λ g. ⊎_elim (λ e. rw (shared_rest a b x y e, less_rest a b x y e) (decided_more a b (decided x y))) (λ l. decided_head a b x y (λ e. omega arith)) g)
    (compared a b)

module _ (x y : List ℕ) {n : ℕ} (e : n ≡ shared_bytes x y) where
  pub less_short : length y ≤ n → false ≡ less_bytes x y
  less_short h = (decided x y).short (omega arith)

  pub less_long : length x ≤ n → n < length y → true ≡ less_bytes x y
  less_long h l = (decided x y).long (omega arith) (omega arith)

  pub less_stop : n < length x → n < length y → ltb (get_or x n 0) (get_or y n 0) ≡ less_bytes x y
  less_stop h l = rw e ((decided x y).stop (omega arith) (omega arith))

-- by from, then by to, then by action
module _ (a b : ℕ) where
  pub before_from : (xs ys : List ℕ) → (a ≡ b → ⊥) → ltb a b ≡ less_bytes (a ∷ xs) (b ∷ ys)
  before_from xs ys f = sym (less_head a b xs ys f)

  module _ (c d : ℕ) (xs ys : List ℕ) (e : a ≡ b) where
    pub before_to : (c ≡ d → ⊥) → ltb c d ≡ less_bytes (a ∷ c ∷ xs) (b ∷ d ∷ ys)
    before_to f = sym (less_rest a b (c ∷ xs) (d ∷ ys) e ∙ less_head c d xs ys f)

    pub before_action : c ≡ d → less_bytes xs ys ≡ less_bytes (a ∷ c ∷ xs) (b ∷ d ∷ ys)
    before_action f = sym (less_rest a b (c ∷ xs) (d ∷ ys) e ∙ less_rest c d xs ys f)

-- ---- a row's place, by halving

or_more : (i j : ℕ) → i ≤ j → (i ≡ j) ⊎ (i < j)
or_more i j h = ⊎_elim (λ l. inr l) (λ g. ⊎_elim (λ e. inl e) (λ l. absurd (omega arith)) g) (compared i j)

module _ {key : ℕ → List ℕ} {x k : ℕ} {order : List ℕ} where
  module _ {low high m : ℕ} (v : Level key k order) (b : Between key x k order low high) (h : m < k) {y : ℕ} (n : y ≡ get_or order m 0) {t : Bool}
      (e : t ≡ less_bytes (key x) (key y)) where
    -- x is before the row in the middle, so also before those behind it
    pub between_front : t ≡ true → Between key x k order low m
    between_front f =
        let l : less_bytes (key x) (key (get_or order m 0)) ≡ true = rw n at (sym e ∙ f) in
        record {
          stay = b.stay;
          follow =
              λ i g u.
              ⊎_elim
              (λ d. rw d at l)
              (λ d. less_near (key x) (key (get_or order m 0)) (key (get_or order i 0)) l (v.is m i d u))
              (or_more m i g);
        }

    -- it is not, so neither before those in front of it
    pub between_back : t ≡ false → Between key x k order (m + 1) high
    between_back f =
        let l : less_bytes (key x) (key (get_or order m 0)) ≡ false = rw n at (sym e ∙ f) in
        record {
          stay =
              λ i g.
              ⊎_elim
              (λ d. rw d l)
              (λ d. less_far (key x) (key (get_or order m 0)) (key (get_or order i 0)) l (v.is i m d h))
              (or_more i m (omega arith));
          follow = b.follow;
        }

  -- x put at its place
  pub between_put : {p : ℕ} {order' : List ℕ} → Between key x k order p p → p ≤ k → k < length order
      → order' ≡ take p order ++ ((x ∷ drop p (take k order)) ++ drop (k + 1) order) → order' ≡ insert_by key x (take k order) ++ drop (k + 1) order
  between_put {p} b h g e =
      let n : length (take k order) ≡ k = length-take-le k order (omega arith) in
      let i : insert_by key x (take k order) ≡ take p (take k order) ++ (x ∷ drop p (take k order)) =
      insert_at
      key
      x
      (take k order)
      p
      (omega arith)
      (λ i l. rw (get_or-take k order i 0 (omega arith)) (b.stay i l))
      (λ i l u. rw (get_or-take k order i 0 (omega arith)) (b.follow i l (omega arith))) in
      e ∙ rw (i, take-take p k order h) (sym (append_assoc (take p order) (x ∷ drop p (take k order)) (drop (k + 1) order)))

-- ---- what stands from the place on is moved on by one

-- the part of which x is the last
upto_last : (b d : List ℕ) (x n : ℕ) → length b + 1 ≡ n → (take n (b ++ (x ∷ d)) ≡ b ++ (x ∷ [])) × (drop n (b ++ (x ∷ d)) ≡ d)
upto_last b d x n e =
    let l : length (b ++ (x ∷ [])) ≡ n = simp length-append (omega arith) in
    let j : (b ++ (x ∷ [])) ++ d ≡ b ++ (x ∷ d) = append_assoc b (x ∷ []) d in
    (rw j at (take_at (b ++ (x ∷ [])) d n l), rw j at (drop_at (b ++ (x ∷ [])) d n l))

-- x laid behind the first k, and the part from p up to it turned by one
pub turned : (order : List ℕ) (p k x : ℕ) {part : List ℕ} → p ≤ k → k < length order
    → part ≡ drop (length (mid_of p (k + 1 - p) (set order k x)) - 1) (mid_of p (k + 1 - p) (set order k x))
    ++ take (length (mid_of p (k + 1 - p) (set order k x)) - 1) (mid_of p (k + 1 - p) (set order k x))
    → put_mid p (k + 1 - p) (set order k x) part ≡ take p order ++ ((x ∷ drop p (take k order)) ++ drop (k + 1) order)
turned order p k x {part} h g e =
    let b = drop p (take k order) in
    let d = drop (k + 1) order in
    let n : length (take k order) ≡ k = length-take-le k order (omega arith) in
    let la : length (take p order) ≡ p = length-take-le p order (omega arith) in
    let lb : length b + 1 ≡ k + 1 - p = simp length-drop (omega arith) in
    let f : take k order ≡ take p order ++ b = sym (take-append-drop p (take k order)) ∙ rw (take-take p k order h) in
    let s : set order k x ≡ take p order ++ (b ++ (x ∷ d)) =
    rw add-one (set_split order k x g ∙ ap (λ (z : List ℕ). z ++ (x ∷ drop (suc k) order)) f ∙ append_assoc (take p order) b (x ∷ drop (suc k) order)) in
    let w = upto_last b d x (k + 1 - p) lb in
    let m : mid_of p (k + 1 - p) (set order k x) ≡ b ++ (x ∷ []) = rw (s, drop_at (take p order) (b ++ (x ∷ d)) p la) w.0 in
    let lw : length (b ++ (x ∷ [])) - 1 ≡ length b = simp length-append (omega arith) in
    let t : part ≡ x ∷ b = rw m at e ∙ rw (lw, drop_at b (x ∷ []) (length b) refl, take_at b (x ∷ []) (length b) refl) in
    rw (s, take_at (take p order) (b ++ (x ∷ d)) p la, drop_at (take p order) (b ++ (x ∷ d)) p la, w.1, t)
