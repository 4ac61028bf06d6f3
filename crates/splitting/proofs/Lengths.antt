-- How long the guard of a set is: one byte, and for each choice that is met and split on a feature the feature's name, the bytes `(?:)` and one leaf
-- more. The invariant weighs each choice met by the length of what the guard says for it: a step moves weight into the total. Assumes nothing.
use mathlib.Core.Path.{◌≡◌, refl, sym, ap, ap₂, ◌∙◌}
use mathlib.Core.Bool.{Bool, true, false}
use mathlib.Core.List.{List, []}
use Prim.Native.Nat.{ℕ, zero, suc, ◌+◌, ◌-◌, ◌*◌, ◌^◌, ◌<◌, ◌≤◌, min}
use native.Mathlib.Omega.{arith}
use native.Mathlib.Numerals.{add-one}
use native.Mathlib.Nat.{mul-one, mul-add, add-mul, mul_comm, mul-le-mul_left, zero-mul}
use borrow.Author.Tests.{eqb-true, eqb-false}
use lib.ListN.{length, length-append, set, replicate}
use lib.Pow.{pow_mono}
use Rattle.products.specs.Sets.{has, count_to}
use Rattle.products.proofs.Bits.{past_bit}
use Rattle.products.proofs.Laws.{has_le, count_le}
use Rattle.text.specs.Text.{limit, behind, Wrote}
use Rattle.text.proofs.Laws.{wrote_past}
use Rattle.guards.specs.Guard.{Guard, print}
use Rattle.guards.specs.Reading.{names_of}
use Rattle.guards.proofs.Finding.{row_name}
use Rattle.splitting.specs.Splitting.{in_set, guard_of}
use Rattle.splitting.specs.Inside.{Within, Tells, Ends, Met, Further, leaf_text}
use Rattle.splitting.proofs.Laws.{guard_ext}
use Rattle.splitting.proofs.Marks.{two_pow}
use Rattle.splitting.proofs.Halving.{allowed, split_guard, skip_guard}
use Rattle.splitting.proofs.Returns.{guard_text, leaf_text_lem, choice_text}
use Rattle.splitting.proofs.Ends.{blank_mark}
use Rattle.splitting.proofs.Choices.{count_alike, word_bit}

-- ---- sums

-- the sum of f over the numbers below n, each as often as m says
unfoldable pub weight : (ℕ → ℕ) → (ℕ → ℕ) → ℕ → ℕ
weight m f zero = 0
weight m f (suc n) = weight m f n + m n * f n

weight_as : (m o f : ℕ → ℕ) (n : ℕ) → ((p : ℕ) → p < n → m p ≡ o p) → weight m f n ≡ weight o f n
unfolding weight
weight_as m o f zero h = refl
weight_as m o f (suc n) h = ap₂ ◌+◌ (weight_as m o f n (λ p l. h p (omega arith))) (ap (λ (y : ℕ). y * f n) (h n (omega arith)))

-- where each weighs 1, the sum is a count
weight_ones : (s : List ℕ) (f : ℕ → ℕ) (n : ℕ) → ((p : ℕ) → p < n → f p ≡ 1) → weight (has s) f n ≡ count_to s n
unfolding weight count_to
weight_ones s f zero h = refl
weight_ones s f (suc n) h =
    ap₂ ◌+◌ (weight_ones s f n (λ p l. h p (omega arith))) (ap (λ (y : ℕ). has s n * y) (h n (omega arith)) ∙ mul-one (has s n))

-- what a number weighs by f, it and the number h further weigh by g, and the further one a more
weight_split : (s : List ℕ) (f g : ℕ → ℕ) (a h k : ℕ) → ((c : ℕ) → c < k → has s c * f c ≡ has s c * g c + has s (h + c) * (a + g (h + c)))
    → weight (has s) f k + weight (has s) g h + a * count_to s h ≡ weight (has s) g k + weight (has s) g (h + k) + a * count_to s (h + k)
unfolding weight count_to
weight_split s f g a h zero each = let e : h + 0 ≡ h = omega arith in rw e refl
weight_split s f g a h (suc k) each =
    let e : h + suc k ≡ suc (h + k) = omega arith in
    rw e (omega (
      arith,
      weight_split s f g a h k (λ c l. each c (omega arith)),
      each k (omega arith),
      mul-add a (count_to s (h + k)) (has s (h + k)),
      mul-add (has s (h + k)) a (g (h + k)),
      mul_comm (has s (h + k)) a,
    ))

-- ---- the length of a guard

-- the length of what the guard says for the choices c of the features before i
abbrev pub text_length : ℕ → List ℕ → List (List ℕ) → List ℕ → ℕ → ℕ → ℕ
text_length n text rows set i c = length (guard_text n i c set (names_of text rows n))

leaf_length : (b : Bool) → length (leaf_text b) ≡ 1
leaf_length true = refl
leaf_length false = refl

module _ (n : ℕ) (text : List ℕ) (rows : List (List ℕ)) where
  -- no feature is left
  last_length : (set : List ℕ) (c : ℕ) → text_length n text rows set n c ≡ 1
  unfolding guard_of
  last_length set c =
      let z : n - n ≡ 0 = omega arith in
      let names = names_of text rows n in
      ap (λ (k : ℕ). length (print (guard_of n k (allowed set n c)) names [])) z
      ∙ ap length (leaf_text_lem (allowed set n c 0) names)
      ∙ leaf_length (allowed set n c 0)

  -- no choice is made yet
  first_length : (set : List ℕ) → text_length n text rows set 0 0 ≡ length (print (guard_of 0 n (in_set set)) (names_of text rows n) [])
  first_length set =
      let z : n - 0 ≡ n = omega arith in
      ap (λ (g : Guard). length (print g (names_of text rows n) []))
      (ap (λ (k : ℕ). guard_of 0 k (allowed set 0 0)) z
      ∙ guard_ext n 0 (allowed set 0 0) (in_set set) (λ q l. let e : 0 + q * 2 ^ 0 ≡ q = omega arith in ap (λ (x : ℕ). in_set set x) e))

  module _ {set t : List ℕ} (small : n ≤ 10) (within : Within n set) (table : Tells n set t) {i c : ℕ} (left : i < n) (lc : c < 2 ^ i) where
    abbrev later : ℕ → ℕ
    later = text_length n text rows set (suc i)

    split_length : in_set t (2 ^ i + c) ≡ true → text_length n text rows set i c ≡ 4 + length (row_name text rows i) + later (2 ^ i + c) + later c
    split_length e =
        let names = names_of text rows n in
        let d : c + 2 ^ i ≡ 2 ^ i + c = omega arith in
        let A : Guard = guard_of (suc i) (n - suc i) (allowed set (suc i) (2 ^ i + c)) in
        let B : Guard = guard_of (suc i) (n - suc i) (allowed set (suc i) c) in
        ap (λ (g : Guard). length (print g names [])) (rw d at (split_guard small within table left lc e))
        ∙ ap length (choice_text text rows n i A B left)
        ∙ simp length-append (omega arith)

    skip_length : in_set t (2 ^ i + c) ≡ false → text_length n text rows set i c ≡ later c
    skip_length e = ap (λ (g : Guard). length (print g (names_of text rows n) [])) (skip_guard small within table left lc e)

    -- what a choice met weighs: what it and, where it is split, the choice with feature i weigh behind, and the split's own bytes
    choice_weighs : (m : List ℕ) → has m (2 ^ i + c) ≡ min (has m c) (has t (2 ^ i + c))
        → has m c * text_length n text rows set i c ≡ has m c * later c + has m (2 ^ i + c) * (4 + length (row_name text rows i) + later (2 ^ i + c))
    choice_weighs m met = go (in_set t (2 ^ i + c)) refl
      where
        go : (b : Bool) → in_set t (2 ^ i + c) ≡ b
            → has m c * text_length n text rows set i c ≡ has m c * later c + has m (2 ^ i + c) * (4 + length (row_name text rows i) + later (2 ^ i + c))
        go true e =
            let own : ℕ = 4 + length (row_name text rows i) + later (2 ^ i + c) in
            let same : has m (2 ^ i + c) ≡ has m c = omega (arith, met, eqb-true (has t (2 ^ i + c)) 1 e, has_le m c) in
            rw (split_length e, same) (omega (arith, mul-add (has m c) own (later c)))
        go false e =
            let ne : (has t (2 ^ i + c) ≡ 1 → ⊥) = eqb-false (has t (2 ^ i + c)) 1 e in
            let none : has m (2 ^ i + c) ≡ 0 = omega (arith, met, has_le t (2 ^ i + c)) in
            rw (skip_length e, none) (omega (arith, zero-mul (4 + length (row_name text rows i) + later (2 ^ i + c))))

-- ---- the count

-- the features before i, of b behind which none is marked, are counted: m has the choices met, and what these weigh is all that the total lacks
pub record Counted (b : ℕ) (text : List ℕ) (rows : List (List ℕ)) (t m : List ℕ) (i total : ℕ) : Type 0 where
  pub most : i ≤ b
  pub met : Met i t m
  pub small : total ≤ 69 * count_to m (2 ^ i)
  pub sum : (n : ℕ) (set : List ℕ) → Ends b n set t
      → text_length n text rows set 0 0 + count_to m (2 ^ i) ≡ total + weight (has m) (text_length n text rows set i) (2 ^ i)

pub counted_none : (b : ℕ) (text : List ℕ) (rows : List (List ℕ)) (t : List ℕ) → Counted b text rows t (set (replicate 16 0) 0 1) 0 1
unfolding weight count_to has
counted_none b text rows t = record {
  most = omega arith;
  met = record {
    long = refl;
    first = refl;
    split = λ j c lj lc. absurd (omega arith);
    blank = λ p le lp. word_bit (set (replicate 16 0) 0 1) p lp ∙ past_bit 1 p le 1 (omega arith);
  };
  small = omega arith;
  sum = λ n s ends. omega arith;
}

module _ {b i total r : ℕ} {text : List ℕ} {rows : List (List ℕ)} {t m o : List ℕ} (counted : Counted b text rows t m i total)
    (step : Met i t m → Further i t m o r) (left : i < b) where
  further : Further i t m o r
  further = step counted.met

  kept : count_to o (2 ^ i) ≡ count_to m (2 ^ i)
  kept = count_alike o m (2 ^ i) further.kept

  module _ {name : List ℕ} (named : name ≡ row_name text rows i) (short : length name ≤ 64) where
    total_small : total + r * (length name + 5) ≤ 69 * count_to o (2 ^ (i + 1))
    total_small = omega (arith, counted.small, further.more, kept, mul-le-mul_left {m = length name + 5} {n = 69} r (omega arith))

    moved : (n : ℕ) (s : List ℕ) → Ends b n s t
        → weight (has m) (text_length n text rows s i) (2 ^ i) ≡ weight (has o) (text_length n text rows s (i + 1)) (2 ^ (i + 1)) + (4 + length name) * r
    moved n s ends =
        let h : ℕ = 2 ^ i in
        let f : ℕ → ℕ = text_length n text rows s i in
        let g : ℕ → ℕ = text_length n text rows s (suc i) in
        let a : ℕ = 4 + length name in
        let d : h + h ≡ 2 ^ suc i = omega (arith, two_pow i) in
        let more : count_to o (2 ^ suc i) ≡ count_to o h + r = rw add-one at further.more in
        let all : weight (has o) f h + weight (has o) g h + a * count_to o h ≡ weight (has o) g h + weight (has o) g (h + h) + a * count_to o (h + h) =
        weight_split o f g a h h (λ c lc.
        rw named (choice_weighs n text rows ends.small ends.within ends.tells (omega (arith, ends.most)) lc o
        (further.met.split i c (omega arith) lc))) in
        let same : weight (has m) f h ≡ weight (has o) f h = weight_as (has m) (has o) f h (λ p lp. sym (further.kept p lp)) in
        rw add-one (omega (arith, same, rw (d, more) at all, mul-add a (count_to o h) r))

    pub counted_more : {sum : ℕ} → sum ≡ total + r * (length name + 5) → Counted b text rows t o (i + 1) sum
    counted_more told = record {
      most = omega arith;
      met = further.met;
      small = omega (arith, total_small);
      sum = λ n s ends.
          let a : ℕ = length name in
          omega (
            arith,
            counted.sum n s ends,
            moved n s ends,
            further.more,
            kept,
            mul-add r a 5,
            add-mul 4 a r,
            mul_comm a r,
          );
    }

-- there are not more choices than that
pub counted_few : {b i total : ℕ} {text : List ℕ} {rows : List (List ℕ)} {t m : List ℕ} → Counted b text rows t m i total → b ≤ 10 → total ≤ 70656
counted_few {i = i} {m = m} counted small =
    omega (arith, counted.small, count_le m (2 ^ i), pow_mono {i = i} {j = 10} (omega (arith, counted.most)))

-- no feature from b on is marked: what is left is a leaf
past_length : {b n : ℕ} {s t : List ℕ} (text : List ℕ) (rows : List (List ℕ)) → Ends b n s t
    → (d i c : ℕ) → b ≤ i → i + d ≡ n → c < 2 ^ i → text_length n text rows s i c ≡ 1
past_length {b} {n} {s} {t} text rows ends zero i c le e lc =
    let z : i ≡ n = omega arith in
    rw z (last_length n text rows s c)
past_length {b} {n} {s} {t} text rows ends (suc d) i c le e lc =
    skip_length n text rows ends.small ends.within ends.tells {i = i} {c = c} (omega arith) lc (blank_mark ends le (omega arith) lc)
    ∙ past_length text rows ends d (suc i) c (omega arith) (omega arith) (omega (arith, two_pow i))

-- all features are counted
pub counted_all : {b i total : ℕ} {text : List ℕ} {rows : List (List ℕ)} {t m : List ℕ} → Counted b text rows t m i total → b ≤ i
    → (n : ℕ) (s : List ℕ) → Ends b n s t → total ≡ length (print (guard_of 0 n (in_set s)) (names_of text rows n) [])
counted_all {b} {i} {total} {text} {rows} {t} {m} counted le n s ends =
    let e : i ≡ b = omega (arith, counted.most) in
    let f : b + (n - b) ≡ n = omega (arith, ends.most) in
    let sum : text_length n text rows s 0 0 + count_to m (2 ^ b) ≡ total + weight (has m) (text_length n text rows s b) (2 ^ b) =
    rw e at (counted.sum n s ends) in
    let ones : weight (has m) (text_length n text rows s b) (2 ^ b) ≡ count_to m (2 ^ b) =
    weight_ones m (text_length n text rows s b) (2 ^ b) (λ c lc. past_length text rows ends (n - b) b c (omega arith) f lc) in
    omega (arith, sum, ones, first_length n text rows s)

-- ---- what the return owes where the room is full

-- nothing is laid, and the next place is behind as many bytes as were counted
pub laid_counted : {l : List ℕ} {at r long b n : ℕ} (text : List ℕ) (rows : List (List ℕ)) {t s : List ℕ}
    → ((n : ℕ) (s : List ℕ) → Ends b n s t → long ≡ length (print (guard_of 0 n (in_set s)) (names_of text rows n) []))
    → r ≡ behind at long → length l ≤ at → length l ≤ limit → Ends b n s t
    → Wrote l at (guard_text n 0 0 s (names_of text rows n)) l r
laid_counted {at = at} {n = n} text rows {s = s} counted place full short ends =
    wrote_past short (place ∙ ap (behind at) (counted n s ends ∙ sym (first_length n text rows s))) full
