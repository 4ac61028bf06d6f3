-- Lists that rise strictly by a key have no key twice: an element is found by its key, and such a list is not longer than a second list in which
-- each of its keys is found, since what is found can be taken out of the second list. Assumes nothing.
use mathlib.Core.Path.{◌≡◌, refl, sym, ap, ◌∙◌}
use mathlib.Core.Bool.{Bool, true, false, ◌&&◌, and-eq-true_iff}
use mathlib.Core.List.Memᴰ
use mathlib.Core.List.{List, [], ◌∷◌, Memᴰ}
use mathlib.Core.Logic.{◌⊎◌, inl, inr, ⊎_elim}
use Prim.Native.Nat.{suc, ◌≤◌, ◌<◌}
use native.Mathlib.Omega.{arith}
use borrow.Author.Tests.{eqb-true, ne_eqb}
use lib.Dec.{eqb}
use lib.ListN.{length}
use Rattle.fields.specs.Bytes.{same_bytes}
use Rattle.fields.proofs.Same.{same_true}
use Rattle.sheet.specs.Sheet.{Move, Stop}
use Rattle.sheet.specs.Reading.{is_move, moved, stopped}
use Rattle.ordering.proofs.Laws.{less_other}
use Rattle.normal.specs.Clean.{Rising, key_of, MoveBefore, StopBefore}

-- ---- by any key

-- a list without one of its elements
record Without {A : Type 0} (x : A) (xs : List A) : Type 0 where
  rest : List A
  longer : length xs ≡ suc (length rest)
  others : (y : A) → Memᴰ y xs → (y ≡ x) ⊎ Memᴰ y rest

take_out : {A : Type 0} {x : A} {xs : List A} → Memᴰ x xs → Without x xs
take_out (Memᴰ.head {xs = xs} e) =
    record { rest = xs; longer = refl; others = λ y n. ⊎_elim (λ d. inl (d ∙ sym e)) (λ j. inr j) (Memᴰ.cases_cons n) }
take_out (Memᴰ.tail {x = z} m) =
    let w = take_out m in
    record {
      rest = z ∷ w.rest;
      longer = ap suc w.longer;
      others = λ y n.
          ⊎_elim
          (λ d. inr (Memᴰ.head d))
          (λ j. ⊎_elim (λ d. inl d) (λ i. inr (Memᴰ.tail i)) (w.others y j))
          (Memᴰ.cases_cons n);
    }

module _ {A K : Type 0} {R : A → A → Type 0} (key : A → K) (other : (x y : A) → R x y → key x ≡ key y → ⊥) where
  -- a key comes once
  pub once : {x y : A} (xs : List A) → Rising R xs → Memᴰ x xs → Memᴰ y xs → key x ≡ key y → x ≡ y
  once [] r i j k = elim i [ ]
  once (z ∷ xs) r (Memᴰ.head e) (Memᴰ.head d) k = e ∙ sym d
  once {x} {y} (z ∷ xs) r (Memᴰ.head e) (Memᴰ.tail j) k = absurd (other y z (r.0 y j) (sym k ∙ ap key e))
  once {x} {y} (z ∷ xs) r (Memᴰ.tail i) (Memᴰ.head d) k = absurd (other x z (r.0 x i) (k ∙ ap key d))
  once (z ∷ xs) r (Memᴰ.tail i) (Memᴰ.tail j) k = once xs r.1 i j k

  -- so what has all its keys in a second list is not longer
  pub not_longer : (xs ys : List A) → Rising R xs → ((x : A) → Memᴰ x xs → (y : A) × Memᴰ y ys × (key x ≡ key y)) → length xs ≤ length ys
  not_longer [] ys r f = omega arith
  not_longer (x ∷ xs) ys r f =
      let k = f x (Memᴰ.head refl) in
      let w = take_out k.1 in
      let h : length xs ≤ length w.rest =
      not_longer xs w.rest r.1
      (λ z i. let l = f z (Memᴰ.tail i) in
      ⊎_elim
      (λ (d : l.0 ≡ k.0). absurd (other z x (r.0 z i) (l.2 ∙ ap key d ∙ sym k.2)))
      (λ j. (l.0, j, l.2))
      (w.others l.0 l.1)) in
      omega (arith, w.longer)

-- ---- moves

pub key_of_lem : (m k : Move) → m.from ≡ k.from → m.action ≡ k.action → m.to ≡ k.to → key_of m ≡ key_of k
key_of_lem m k f a t = rw (f, a, t)

pub before_other : (m k : Move) → MoveBefore m k → key_of m ≡ key_of k → ⊥
before_other m k b e = less_other (key_of m) (key_of k) b.is e

unmoved : (t : Bool) → (t ≡ true → ⊥) → t ≡ false
unmoved true f = absurd (f refl)
unmoved false f = refl

same_move : (m k : Move) → is_move m.from m.action m.to k ≡ true → key_of k ≡ key_of m
same_move m k e =
    let u = (and-eq-true_iff (eqb m.from k.from) (eqb m.to k.to && same_bytes k.action m.action)).0 e in
    let v = (and-eq-true_iff (eqb m.to k.to) (same_bytes k.action m.action)).0 u.1 in
    key_of_lem k m (sym (eqb-true m.from k.from u.0)) (same_true k.action m.action v.1) (sym (eqb-true m.to k.to v.0))

-- "No .. triple of from, action and to .. comes twice."
pub moved_once : (m : Move) (ms : List Move) → ((k : Move) → Memᴰ k ms → MoveBefore k m) → moved m.from m.action m.to ms ≡ false
unfolding moved
moved_once m [] b = refl
moved_once m (k ∷ ms) b =
    let h : is_move m.from m.action m.to k ≡ false =
    unmoved (is_move m.from m.action m.to k) (λ e. before_other k m (b k (Memᴰ.head refl)) (same_move m k e)) in
    rw h (moved_once m ms (λ l i. b l (Memᴰ.tail i)))

-- "no state of a stop line comes twice"
pub stopped_once : (d : Stop) (ds : List Stop) → ((e : Stop) → Memᴰ e ds → StopBefore e d) → stopped d.state ds ≡ false
unfolding stopped
stopped_once d [] b = refl
stopped_once d (k ∷ ds) b =
    let l : k.state < d.state = b k (Memᴰ.head refl) in
    rw (ne_eqb d.state k.state (λ e. omega arith)) (stopped_once d ds (λ x i. b x (Memᴰ.tail i)))
