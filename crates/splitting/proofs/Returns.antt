-- What each `return` of the set writer owes, over plain variables: a leaf, and a set that is split on a feature. A guard's text before what follows it
-- is its text and then that. Assumes nothing.
use mathlib.Core.Path.{◌≡◌, refl, sym, ap, ◌∙◌}
use mathlib.Core.Bool.{Bool, true, false, cond}
use mathlib.Core.List.{List, [], ◌∷◌, ◌++◌, append_assoc}
use Prim.Native.Nat.{ℕ, zero, suc, ◌+◌, ◌-◌, ◌*◌, ◌^◌, ◌≤◌, ◌<◌, min}
use native.Mathlib.Omega.{arith}
use native.Mathlib.Decide.{dec_lt}
use native.Mathlib.Numerals.{add-one}
use native.Mathlib.Nat.{zero-mul}
use borrow.Author.Tests.{lt-ltb, eqb-true, eqb-false}
use lib.Dec.{eqb, ltb}
use lib.ListN.{length}
use lib.Pow.{pow_mono}
use Rattle.products.specs.Sets.{has, one_if}
use Rattle.products.proofs.Laws.{has_le}
use Rattle.text.specs.Text.{Wrote}
use Rattle.text.proofs.Laws.{wrote_then}
use Rattle.guards.specs.Guard.{Operator, Guard, Parts, never, always, feature, neg, chain, choice, one, more, name_of, byte_of, print, print_parts}
use Rattle.guards.specs.Reading.{names_of}
use Rattle.guards.proofs.Finding.{row_name, names_length}
use Rattle.splitting.specs.Splitting.{in_set, guard_of}
use Rattle.splitting.specs.Inside.{First, Ends, leaf_text}
use Rattle.splitting.proofs.Laws.{guard_ext}
use Rattle.splitting.proofs.Marks.{two_pow, step, step_is}
use Rattle.splitting.proofs.Halving.{allowed, split_guard, first_guard}
use Rattle.splitting.proofs.Ends.{blank_mark}

-- ---- texts

mutual
  unfolding print print_parts

  pub print_before : (g : Guard) (n : List (List ℕ)) (x y : List ℕ) → print g n (x ++ y) ≡ print g n x ++ y
  print_before never n x y = refl
  print_before always n x y = refl
  print_before (feature i) n x y = sym (append_assoc (name_of n i) x y)
  print_before (neg g) n x y = ap (λ (l : List ℕ). 33 ∷ l) (print_before g n x y)
  print_before (chain o ps g) n x y =
      ap (λ (l : List ℕ). 40 ∷ l)
      (ap (λ (l : List ℕ). print_parts ps o n (byte_of o ∷ l)) (print_before g n (41 ∷ x) y) ∙ parts_before ps o n (byte_of o ∷ print g n (41 ∷ x)) y)
  print_before (choice c g h) n x y =
      ap (λ (l : List ℕ). 40 ∷ l)
      (ap (λ (l : List ℕ). print c n (63 ∷ print g n (58 ∷ l))) (print_before h n (41 ∷ x) y)
      ∙ ap (λ (l : List ℕ). print c n (63 ∷ l)) (print_before g n (58 ∷ print h n (41 ∷ x)) y)
      ∙ print_before c n (63 ∷ print g n (58 ∷ print h n (41 ∷ x))) y)

  pub parts_before : (ps : Parts) (o : Operator) (n : List (List ℕ)) (x y : List ℕ) → print_parts ps o n (x ++ y) ≡ print_parts ps o n x ++ y
  parts_before (one g) o n x y = print_before g n x y
  parts_before (more ps g) o n x y =
      ap (λ (l : List ℕ). print_parts ps o n (byte_of o ∷ l)) (print_before g n x y) ∙ parts_before ps o n (byte_of o ∷ print g n x) y

-- the name of feature i is the piece that row i names
pub name_row : (s : List ℕ) (t : List (List ℕ)) (n i : ℕ) → i < n → name_of (names_of s t n) i ≡ row_name s t i
unfolding names_of name_of
name_row s t zero i l = absurd (omega arith)
name_row s t (suc n) i l = go (name_row s t n i) (eqb i n) refl
  where
    go : (i < n → name_of (names_of s t n) i ≡ row_name s t i) → (b : Bool) → eqb i n ≡ b
        → cond (eqb i (length (names_of s t n))) (row_name s t n) (name_of (names_of s t n) i) ≡ row_name s t i
    go earlier true e = rw (names_length s t n, e) (ap (λ (k : ℕ). row_name s t k) (sym (eqb-true i n e)))
    go earlier false e =
        let ne : (i ≡ n → ⊥) = eqb-false i n e in
        rw (names_length s t n, e) (earlier (omega arith))

-- ---- what each return owes

-- the guard of the set's products that the choices c of the features before i allow
abbrev pub guard_text : ℕ → ℕ → ℕ → List ℕ → List (List ℕ) → List ℕ
guard_text n i c set names = print (guard_of i (n - i) (λ q. in_set set (c + q * 2 ^ i))) names []

pub leaf_text_lem : (b : Bool) (names : List (List ℕ)) → print (cond b always never) names [] ≡ leaf_text b
unfolding print
leaf_text_lem true names = refl
leaf_text_lem false names = refl

-- what is not marked before m is marked nowhere
none_left : {m n i j c : ℕ} {set t : List ℕ} → Ends m n set t → First t m i c j → m ≤ j → c < 2 ^ i → First t n i c n
none_left {m} {n} {i} {j} {c} {set} {t} ends first none lc = record { passed = λ k a l. go k a l (dec_lt k m); marked = λ l. absurd (omega arith) }
  where
    go : (k : ℕ) → i ≤ k → k < n → Dec (k < m) → in_set t (2 ^ k + c) ≡ false
    go k a l (yes h) = first.passed k a (omega arith)
    go k a l (no h) = blank_mark ends (omega arith) l (omega (arith, pow_mono {i = i} {j = k} a))

-- no feature is left on which the set depends
pub laid_leaf : {l l' : List ℕ} {at r m i j c : ℕ} {b : Bool} {set t : List ℕ} (text : List ℕ) (rows : List (List ℕ))
    → Wrote l at (leaf_text b) l' r → b ≡ in_set set c → First t m i c j → m ≤ j → i ≤ m → c < 2 ^ i
    → (n : ℕ) → Ends m n set t → Wrote l at (guard_text n i c set (names_of text rows n)) l' r
unfolding guard_of
laid_leaf {i = i} {j} {c} {b} {set} {t} text rows w told first none li lc n ends =
    let names = names_of text rows n in
    let z : n - n ≡ 0 = omega arith in
    let o : c + 0 * 2 ^ n ≡ c = omega (arith, zero-mul (2 ^ n)) in
    let g : guard_text n i c set names ≡ guard_text n n c set names =
    ap (λ (g : Guard). print g names [])
    (first_guard ends.small ends.within ends.tells (none_left ends first none lc) (omega (arith, ends.most)) (omega arith) lc) in
    let e : guard_text n n c set names ≡ leaf_text b =
    ap (λ (k : ℕ). print (guard_of n k (λ q. in_set set (c + q * 2 ^ n))) names []) z
    ∙ leaf_text_lem (in_set set (c + 0 * 2 ^ n)) names
    ∙ ap (λ (x : ℕ). leaf_text (in_set set x)) o
    ∙ ap leaf_text (sym told) in
    rw (g, e) w

-- the set depends on j first, and is laid from there
pub laid_from : {l l' : List ℕ} {at r m i j c : ℕ} {set t : List ℕ} (text : List ℕ) (rows : List (List ℕ))
    → ((n : ℕ) → Ends m n set t → in_set t (2 ^ j + c) ≡ true → Wrote l at (guard_text n j c set (names_of text rows n)) l' r)
    → First t m i c j → j < m → i ≤ j → c < 2 ^ i → (n : ℕ) → Ends m n set t → Wrote l at (guard_text n i c set (names_of text rows n)) l' r
laid_from {i = i} {j} {c} {set} {t} text rows w first before le lc n ends =
    let names = names_of text rows n in
    let passed : First t n i c j = record { passed = first.passed; marked = λ l. first.marked before } in
    let g : guard_text n i c set names ≡ guard_text n j c set names =
    ap (λ (g : Guard). print g names [])
    (first_guard ends.small ends.within ends.tells passed le (omega (arith, ends.most)) lc) in
    rw g (w n ends (first.marked before))

-- the two ways to lay a half meet
pub laid_met : {l l' k : List ℕ} {at r s m : ℕ} {set t : List ℕ} {v : ℕ → List ℕ} → ((n : ℕ) → Ends m n set t → Wrote l at (v n) k s) → l' ≡ k → r ≡ s
    → (n : ℕ) → Ends m n set t → Wrote l at (v n) l' r
laid_met w e f n ends = rw (e, f) (w n ends)

pub length_met : {l k : List ℕ} {n : ℕ} → l ≡ k → length k ≡ n → length l ≡ n
length_met e f = ap length e ∙ f

pub choice_text : (text : List ℕ) (rows : List (List ℕ)) (n i : ℕ) (g k : Guard) → i < n
    → print (choice (feature i) g k) (names_of text rows n) []
    ≡ (40 ∷ []) ++ (row_name text rows i ++ ((63 ∷ []) ++ (print g (names_of text rows n) [] ++ ((58 ∷ []) ++ (print k (names_of text rows n) [] ++ (41 ∷ []))))))
unfolding print
choice_text text rows n i g k left =
    let names = names_of text rows n in
    rw (name_row text rows n i left, ← print_before k names [] (41 ∷ []), ← print_before g names [] (58 ∷ print k names (41 ∷ [])))

-- the set is split on feature j: `(`, the feature's name, `?`, one half, `:`, the other, `)`
pub laid_split : {l₀ l₁ l₂ l₃ l₄ l₅ l₆ l₇ piece : List ℕ} {at a b e d g f r m n j c : ℕ} {set t : List ℕ} (text : List ℕ) (rows : List (List ℕ))
    → Wrote l₀ at (40 ∷ []) l₁ a → piece ≡ row_name text rows j → Wrote l₁ a piece l₂ b → Wrote l₂ b (63 ∷ []) l₃ e
    → ((n : ℕ) → Ends m n set t → Wrote l₃ e (guard_text n (j + 1) (c + step j) set (names_of text rows n)) l₄ d) → Wrote l₄ d (58 ∷ []) l₅ g
    → ((n : ℕ) → Ends m n set t → Wrote l₅ g (guard_text n (j + 1) c set (names_of text rows n)) l₆ f) → Wrote l₆ f (41 ∷ []) l₇ r
    → j < m → c < 2 ^ j → Ends m n set t → in_set t (2 ^ j + c) ≡ true
    → Wrote l₀ at (guard_text n j c set (names_of text rows n)) l₇ r
laid_split {piece = piece} {m = m} {n} {j} {c} {set} {t} text rows w1 named w2 w3 w4 w5 w6 w7 before lc ends marked =
    let small : n ≤ 10 = ends.small in
    let left : j < n = omega (arith, ends.most) in
    let names = names_of text rows n in
    let A : Guard = guard_of (j + 1) (n - (j + 1)) (λ q. in_set set (c + 2 ^ j + q * 2 ^ (j + 1))) in
    let B : Guard = guard_of (j + 1) (n - (j + 1)) (λ q. in_set set (c + q * 2 ^ (j + 1))) in
    let s : step j ≡ 2 ^ j = step_is j (omega arith) in
    let g : guard_of j (n - j) (allowed set j c) ≡ choice (feature j) A B = rw add-one (split_guard small ends.within ends.tells left lc marked) in
    let u : guard_text n j c set names ≡ (40 ∷ []) ++ (piece ++ ((63 ∷ []) ++ (print A names [] ++ ((58 ∷ []) ++ (print B names [] ++ (41 ∷ [])))))) =
    rw (g, named) (choice_text text rows n j A B left) in
    rw u (wrote_then w1 (wrote_then w2 (wrote_then w3 (wrote_then (rw s at (w4 n ends)) (wrote_then w5 (wrote_then (w6 n ends) w7))))))

-- the choices stay below what the features decided make
pub chosen_below : (j n c : ℕ) → c < 2 ^ j → j < n → n ≤ 10 → c + step j < 2 ^ (j + 1)
chosen_below j n c lc lj ln = rw add-one (omega (arith, step_is j (omega arith), two_pow j))

pub chosen_small : (j n c : ℕ) → c < 2 ^ j → j < n → n ≤ 10 → c + step j < 1024
chosen_small j n c lc lj ln = omega (arith, chosen_below j n c lc lj ln, pow_mono {i = j + 1} {j = 10} (omega arith))

-- and below what later ones make
pub below_later : (i j c : ℕ) → c < 2 ^ i → i ≤ j → c < 2 ^ j
below_later i j c lc le = omega (arith, pow_mono {i = i} {j = j} le)

whole_in : (n : ℕ) (set every cut : List ℕ) → ((p : ℕ) → p < 1024 → has cut p ≡ min (has set p) (has every p))
    → ((p : ℕ) → p < 1024 → has every p ≡ one_if (ltb p (2 ^ n))) → n ≤ 10 → (q : ℕ) → q < 2 ^ n → in_set cut (0 + q * 2 ^ 0) ≡ in_set set q
whole_in n set every cut both all small q l =
    let b : q < 1024 = omega (arith, pow_mono {i = n} {j = 10} small) in
    let e : 0 + q * 2 ^ 0 ≡ q = omega arith in
    let m : has cut q ≡ has set q = omega (arith, both q b, all q b, ap (λ (t : Bool). one_if t) (lt-ltb q (2 ^ n) l), has_le set q) in
    ap (λ (x : ℕ). in_set cut x) e ∙ ap (λ (x : ℕ). eqb x 1) m

-- the guard of the first features' products
pub laid_whole : {l l' : List ℕ} {at r : ℕ} (text : List ℕ) (rows : List (List ℕ)) (count n : ℕ) (set every cut : List ℕ)
    → Wrote l at (guard_text n 0 0 cut (names_of text rows n)) l' r → n ≡ min count 10
    → ((p : ℕ) → p < 1024 → has cut p ≡ min (has set p) (has every p)) → ((p : ℕ) → p < 1024 → has every p ≡ one_if (ltb p (2 ^ n)))
    → Wrote l at (print (guard_of 0 (min count 10) (in_set set)) (names_of text rows (min count 10)) []) l' r
laid_whole {l} {l'} {at} {r} text rows count n set every cut w e both all =
    let small : n ≤ 10 = omega arith in
    let none : n - 0 ≡ n = omega arith in
    let g : guard_of 0 n (λ q. in_set cut (0 + q * 2 ^ 0)) ≡ guard_of 0 n (in_set set) =
    guard_ext n 0 (λ q. in_set cut (0 + q * 2 ^ 0)) (in_set set) (whole_in n set every cut both all small) in
    rw (← e, ← g) (rw none at w)
