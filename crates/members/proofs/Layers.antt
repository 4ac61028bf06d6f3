-- The search for the plainest product: the words of a layer, the search through the layers of one word, and what is known of the best product after
-- each word. Assumes nothing.
use Rattle.std.proofs.Common.{Option, Some, None, ◌≡◌, refl, sym, ap, ◌∙◌, Bool, true, false, ◌||◌, List, ◌⊎◌, inl, inr, ℕ, ◌+◌, ◌-◌, ◌*◌, ◌/◌, ◌%◌, ◌^◌, ◌<◌, ◌≤◌, arith, eq-eqb, ne_eqb, eqb-true, eqb, get_or, bit_and, ltb-true, leb-true, T, ltb, leb, eqb→eq}
use native.Mathlib.Decide.{dec_lt}
use Rattle.products.specs.Sets.{bit, has, one_if, Picked, Least, Finds}
use Rattle.products.specs.Orders.{bits, features, Plainer, fewer, as_many}
use Rattle.products.proofs.Bits.{zero_bit, bit_and_lem, passes, passes_at, word_at}
use Rattle.products.proofs.Laws.{one_true, found_at, found_none}
use Rattle.products.proofs.Ordered.{plainer_by, plainer_few, bits_le, features_none, features_split}
use Rattle.members.specs.Inside.{InWord}
use Rattle.members.proofs.Passed.{shown}

-- ---- the words of a layer

-- the numbers below 64 that have n features
pub features_word : (x n : ℕ) {i : ℕ} → T (passes (λ k. eqb (bit x k) (one_if (eqb (bits k 6) n))) 64) → i ≡ n → (k : ℕ) → k < 64 → bit x k ≡ one_if (eqb (bits k 6) i)
features_word = word_at (λ n k. one_if (eqb (bits k 6) n))

pub features_past : {n : ℕ} → 6 < n → (k : ℕ) → k < 64 → bit 0 k ≡ one_if (eqb (bits k 6) n)
features_past {n} l k lk = zero_bit k ∙ sym (ap one_if (ne_eqb (bits k 6) n (λ e. omega (arith, bits_le k 6))))

-- a digit for each word
pub word_features : (x w : ℕ) → T (passes (λ w. eqb (x / 2 ^ (4 * w) % 16) (bits w 4)) 16) → w < 16 → x / 2 ^ (4 * w) % 16 ≡ bits w 4
word_features x w test l = eqb→eq (x / 2 ^ (4 * w) % 16) (bits w 4) (passes_at (λ w. eqb (x / 2 ^ (4 * w) % 16) (bits w 4)) 16 test w l)

-- words from `end` on have m features or more in their numbers, by a computed test
pub words_have : (m end : ℕ) {few : ℕ} → T (passes (λ w. ltb w end || leb m (bits w 4)) 16) → few ≡ m → (w : ℕ) → w < 16 → end ≤ w → few ≤ bits w 4
words_have m end {few} test e w l past = told (ltb w end) refl (leb m (bits w 4)) refl (passes_at (λ w. ltb w end || leb m (bits w 4)) 16 test w l)
  where
    told : (a : Bool) → ltb w end ≡ a → (b : Bool) → leb m (bits w 4) ≡ b → T (a || b) → few ≤ bits w 4
    told true p b q x = let z = ltb-true w end p in absurd (omega arith)
    told false p true q x = let z = leb-true m (bits w 4) q in omega arith
    told false p false q x = absurd x

-- ---- the layers of a word

-- every place of x has n features or more, with the c of its word
pub record From (x c n : ℕ) : Type 0 where
  pub is : (j : ℕ) → j < 64 → bit x j ≡ 1 → n ≤ c + bits j 6

pub from_none : (x c : ℕ) → From x c c
from_none x c = record { is = λ j l o. omega arith }

-- the features of a product are those of its place and of its word
in_its_word : (q w : ℕ) → q / 64 ≡ w → features q ≡ bits (q % 64) 6 + bits w 4
in_its_word q w h =
    let e : w * 64 + q % 64 ≡ q = omega arith in
    ap features (sym e) ∙ features_split w (q % 64) (omega arith)

in_word : {w x n q : ℕ} → InWord w x n q → features q ≡ bits (q % 64) 6 + bits w 4
in_word {w} {x} {n} {q} i = in_its_word q w i.word

-- a word that is 0
pub word_none : {w x n : ℕ} → x ≡ 0 → (q : ℕ) → InWord w x n q → ⊥
word_none e q i = let o = i.one in omega (arith, zero_bit (q % 64), rw e at o)

-- no layer is left
pub layers_past : (w : ℕ) {x few c n : ℕ} → c ≡ bits w 4 → From x c n → few ≤ n → (q : ℕ) → InWord w x few q → ⊥
layers_past w common h l q i = omega (arith, common, i.less, in_word i, h.is (q % 64) (omega arith) i.one)

-- m has the places whose products have n features, c of them those of the word
module _ (x m : ℕ) {c n : ℕ} (le : c ≤ n) (on : (j : ℕ) → j < 64 → bit m j ≡ one_if (eqb (bits j 6) (n - c))) where
  in_layer : (j : ℕ) → j < 64 → bit (bit_and x m) j ≡ 1 → (bit x j ≡ 1) × (c + bits j 6 ≡ n)
  in_layer j l e =
      let z = bit_and_lem x m j in
      let two : bit m j ≡ 1 = omega arith in
      let k = eqb-true (bits j 6) (n - c) (one_true (eqb (bits j 6) (n - c)) (sym (on j l) ∙ two)) in
      (omega arith, omega arith)

  of_layer : (j : ℕ) → j < 64 → bit x j ≡ 1 → c + bits j 6 ≡ n → bit (bit_and x m) j ≡ 1
  of_layer j l o e =
      let z = bit_and_lem x m j in
      let two : bit m j ≡ 1 = on j l ∙ ap one_if (eq-eqb (bits j 6) (n - c) (omega arith)) in
      omega arith

  -- a layer that has none
  pub layer_none : From x c n → bit_and x m ≡ 0 → From x c (n + 1)
  layer_none h e = record { is = λ j l o. let z = h.is j l o in let ne = other j l o in omega arith }
    where
      other : (j : ℕ) → j < 64 → bit x j ≡ 1 → c + bits j 6 ≡ n → ⊥
      other j l o s = let one = of_layer j l o s in omega (arith, zero_bit j, rw e at one)

  -- the lowest place of the first layer that has any
  pub layer_least : (w : ℕ) {few j : ℕ} → c ≡ bits w 4 → From x c n → n < few → j < 64 → bit (bit_and x m) j ≡ 1
      → ((i : ℕ) → i < j → bit (bit_and x m) i ≡ 0) → Least Plainer (InWord w x few) (w * 64 + j)
  layer_least w {few} {j} common h l lj one none =
      let place : (w * 64 + j) % 64 ≡ j = omega arith in
      record {
        is = record { word = omega arith; one = rw place at.0; less = omega (arith, split, at.1, common, l) };
        first = λ q i. plainer_by (omega (arith, split, in_word i, at.1, common, h.is (q % 64) (omega arith) i.one)) (before q i);
      }
    where
      at : (bit x j ≡ 1) × (c + bits j 6 ≡ n)
      at = in_layer j lj one

      split : features (w * 64 + j) ≡ bits j 6 + bits w 4
      split = features_split w j lj

      before : (q : ℕ) → InWord w x few q → features (w * 64 + j) ≡ features q → w * 64 + j ≤ q
      before q i e =
          let b = of_layer (q % 64) (omega arith) i.one (omega (arith, split, in_word i, at.1, common, e)) in
          let past : q % 64 < j → ⊥ = λ lt. omega (arith, none (q % 64) lt, b) in
          omega (arith, i.word)

-- ---- the words one after the other

-- best is the plainest of the products with the property P before word w, and from there on none has a smaller number; it has `few` features
pub record Best (P : ℕ → Type 0) (w best few : ℕ) : Type 0 where
  pub is : P best
  pub has_few : few ≡ features best
  pub first : (q : ℕ) → P q → q < w * 64 → Plainer best q
  pub rest : (q : ℕ) → P q → w * 64 ≤ q → best ≤ q

module _ {y : ℕ} {a b : List ℕ} {w best few : ℕ} (x : ℕ) (h : Best (Picked y a b) w best few)
    (on : (k : ℕ) → (bit x k ≡ 1 → (bit (get_or a w 0) k ≡ 1) × (bit (get_or b w 0) k ≡ y)) × (bit (get_or a w 0) k ≡ 1 → bit (get_or b w 0) k ≡ y → bit x k ≡ 1)) where
  picked_in : (q : ℕ) → InWord w x few q → w < 16 → Picked y a b q
  unfolding has
  picked_in q i l =
      let o = (on (q % 64)).0 i.one in
      record { first = record { small = omega (arith, i.word); is = rw i.word o.0 }; second = rw i.word o.1 }

  -- a product before the next word: before this one, plainer than the best, or neither
  split : (q : ℕ) → Picked y a b q → q < (w + 1) * 64 → {A : Type 0} → (q < w * 64 → A) → (InWord w x few q → A) → (w * 64 ≤ q → few ≤ features q → A) → A
  split q i l {A} before plainer other = by (dec_lt q (w * 64)) (dec_lt (features q) few)
    where
      by : Dec (q < w * 64) → Dec (features q < few) → A
      by (yes z) t = before z
      by (no n) (yes t) = let z : q / 64 ≡ w = omega arith in plainer (record { word = z; one = shown x on q i z; less = t })
      by (no n) (no t) = other (omega arith) (omega arith)

  -- a word that has none that is plainer
  pub best_stays : {f : Option ℕ} → Finds Plainer (InWord w x few) f → f ≡ None → Best (Picked y a b) (w + 1) best few
  best_stays g n =
      record {
        is = h.is;
        has_few = h.has_few;
        first = λ q i l.
            split q i l (h.first q i) (λ z. absurd (found_none Plainer (InWord w x few) g n q z))
            (λ k t. plainer_by (omega (arith, h.has_few, t)) (λ s. h.rest q i k));
        rest = λ q i l. h.rest q i (omega arith);
      }

  -- a word that has one
  pub best_changes : {f : Option ℕ} {p less : ℕ} → Finds Plainer (InWord w x few) f → f ≡ Some p → w < 16 → less ≡ features p → Best (Picked y a b) (w + 1) p less
  best_changes {p = p} g n lw e =
      let z = found_at Plainer (InWord w x few) g n in
      record {
        is = picked_in p z.is lw;
        has_few = e;
        first = λ q i l.
            split q i l (λ k. fewer (omega (arith, h.has_few, z.is.less, plainer_few (h.first q i k)))) (z.first q)
            (λ k t. fewer (omega (arith, z.is.less, t)));
        rest = λ q i l. omega (arith, z.is.word);
      }

-- the best has none or one, or the words that are left have as many in their numbers
pub best_is : {y : ℕ} {a b : List ℕ} {w best few end : ℕ} → Best (Picked y a b) w best few → end ≤ w
    → (few ≤ 1) ⊎ ((v : ℕ) → v < 16 → end ≤ v → few ≤ bits v 4) → Least Plainer (Picked y a b) best
best_is {y} {a} {b} {w} {best} {few} {end} h past l = record { is = h.is; first = λ q i. by q i l (dec_lt q (w * 64)) (dec_lt 0 (features q)) }
  where
    by : (q : ℕ) → Picked y a b q → (few ≤ 1) ⊎ ((v : ℕ) → v < 16 → end ≤ v → few ≤ bits v 4) → Dec (q < w * 64) → Dec (0 < features q) → Plainer best q
    by q i t (yes z) d = h.first q i z
    by q i (inl t) (no n) (yes k) = plainer_by (omega (arith, h.has_few)) (λ e. h.rest q i (omega arith))
    by q i (inl t) (no n) (no m) =
        let z = features_none q i.first.small (omega arith) in
        let k = h.rest q i (omega arith) in
        let s : best ≡ q = omega arith in
        rw s (as_many refl (omega arith))
    by q i (inr t) (no n) d =
        let small = i.first.small in
        let many = t (q / 64) (omega arith) (omega arith) in
        plainer_by (omega (arith, h.has_few, in_its_word q (q / 64) refl, many)) (λ z. h.rest q i (omega arith))
