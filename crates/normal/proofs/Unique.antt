-- A sheet has one clean form, up to numbers of lines and places: two rising lists with the same members are equal, and each line's guard is the one
-- guard of its set. Assumes nothing.
use mathlib.Core.Path.{◌≡◌, refl, sym, ap, ap₂, subst, ◌∙◌}
use mathlib.Core.List.Memᴰ
use mathlib.Core.List.{List, [], ◌∷◌, map, Memᴰ}
use mathlib.Core.Logic.{inl, inr}
use Prim.Native.Nat.{ℕ}
use native.Mathlib.Omega.{arith}
use Rattle.guards.specs.Guard.{Guard}
use Rattle.sheet.specs.Sheet.{Feature, Move, Stop, Sheet, names}
use Rattle.sheet.specs.Spelling.{bare_feature, bare_move, bare_stop, Alike}
use Rattle.sheet.proofs.ReadBack.{alike_text}
use Rattle.family.specs.Ways.{Valid}
use Rattle.splitting.specs.Splitting.{Writes}
use Rattle.splitting.proofs.Laws.{writes_unique}
use Rattle.ordering.proofs.Laws.{less_trans, less_other}
use Rattle.normal.specs.Clean.{count, key_of, GoesIn, GuardFor, Stays, Rising, MoveBefore, StopBefore, Clean, IsClean}
use Rattle.normal.proofs.Carry.{moves_bare_rise, stops_bare_rise}

-- ---- rising lists with the same members

module _ {A : Type 0} (R : A → A → Type 0) (asym : (x y : A) → R x y → R y x → ⊥) where
  last_one : (x y : A) (xs ys : List A) → Rising R (x ∷ xs) → Rising R (y ∷ ys) → Memᴰ x (y ∷ ys) → Memᴰ y (x ∷ xs) → x ≡ y
  last_one x y xs ys a b (Memᴰ.head e) j = e
  last_one x y xs ys a b (Memᴰ.tail i) (Memᴰ.head e) = sym e
  last_one x y xs ys a b (Memᴰ.tail i) (Memᴰ.tail j) = absurd (asym x y (b.0 x i) (a.0 y j))

  others : (x y : A) (xs ys : List A) → Rising R (x ∷ xs) → x ≡ y → (z : A) → Memᴰ z xs → Memᴰ z (y ∷ ys) → Memᴰ z ys
  others x y xs ys a e z i (Memᴰ.tail j) = j
  others x y xs ys a e z i (Memᴰ.head h) =
      let k : R x x = subst (λ (w : A). R w x) (h ∙ sym e) (a.0 z i) in
      absurd (asym x x k k)

  pub rising_one : (xs ys : List A) → Rising R xs → Rising R ys → ((z : A) → Memᴰ z xs → Memᴰ z ys)
      → ((z : A) → Memᴰ z ys → Memᴰ z xs) → xs ≡ ys
  rising_one [] [] a b f g = refl
  rising_one [] (y ∷ ys) a b f g = absurd (Memᴰ.not-nil (g y (Memᴰ.head refl)))
  rising_one (x ∷ xs) [] a b f g = absurd (Memᴰ.not-nil (f x (Memᴰ.head refl)))
  rising_one (x ∷ xs) (y ∷ ys) a b f g =
      let e : x ≡ y = last_one x y xs ys a b (f x (Memᴰ.head refl)) (g y (Memᴰ.head refl)) in
      ap₂ ◌∷◌ e
      (rising_one xs ys a.1 b.1
      (λ z i. others x y xs ys a e z i (f z (Memᴰ.tail i)))
      (λ z i. others y x ys xs b (sym e) z i (g z (Memᴰ.tail i))))

pub move_asym : (m k : Move) → MoveBefore m k → MoveBefore k m → ⊥
move_asym m k a b = less_other (key_of m) (key_of m) (less_trans (key_of m) (key_of k) (key_of m) a.is b.is) refl

pub stop_asym : (d e : Stop) → StopBefore d e → StopBefore e d → ⊥
stop_asym d e a b = omega arith

-- ---- one guard for each line

pub guard_one : (r : Sheet) (f : ℕ) (a : List ℕ) (t : ℕ) (g h : Guard) → GuardFor r f a t g → GuardFor r f a t h → g ≡ h
guard_one r f a t g h (inl m) (inl k) = m.guard ∙ sym k.guard
guard_one r f a t g h (inl m) (inr k) = absurd (k.unmade (m.every k.product k.valid k.reached))
guard_one r f a t g h (inr m) (inl k) = absurd (m.unmade (k.every m.product m.valid m.reached))
guard_one r f a t g h (inr m) (inr k) =
    writes_unique (count r) (GoesIn r f a t) (GoesIn r f a t) g h m.guard k.guard (λ p l z. z) (λ p l z. z)

-- lines with the same parts are the same bare line
move_parts : (m k : Move) → k.from ≡ m.from → k.action ≡ m.action → k.to ≡ m.to → k.guard ≡ m.guard → bare_move k ≡ bare_move m
move_parts m k f a t g = λ i. record { line = 0; from = f i; action = a i; place = 0; to = t i; guard = g i }

stop_parts : (d e : Stop) → e.state ≡ d.state → e.guard ≡ d.guard → bare_stop e ≡ bare_stop d
stop_parts d e s g = λ i. record { line = 0; state = s i; guard = g i }

-- the features are told by their names
named : List ℕ → Feature
named n = record { name = n; place = 0 }

bare_named : (fs : List Feature) → map bare_feature fs ≡ map named (names fs)
unfolding names named
bare_named [] = refl
bare_named (f ∷ fs) = ap (λ (l : List Feature). bare_feature f ∷ l) (bare_named fs)

-- ---- one clean form

module _ {r c d : Sheet} (k : Clean r c) (l : Clean r d) where
  move_into : (z : Move) → Memᴰ z (map bare_move c.moves) → Memᴰ z (map bare_move d.moves)
  move_into z j =
      let n = Memᴰ.of_map bare_move c.moves j in
      let m : Move = n.0 in
      let u = k.moves_only m n.1 in
      let v = l.moves_every m.from m.action m.to u.0 in
      let w = (l.moves_only v.0 v.1).1 in
      let here : GuardFor r m.from m.action m.to v.0.guard = rw (v.2, v.3, v.4) at w in
      let g : v.0.guard ≡ m.guard = guard_one r m.from m.action m.to v.0.guard m.guard here u.1 in
      subst (λ (y : Move). Memᴰ y (map bare_move d.moves)) (move_parts m v.0 v.2 v.3 v.4 g ∙ n.2) (Memᴰ.map bare_move v.1)

  stop_into : (z : Stop) → Memᴰ z (map bare_stop c.stops) → Memᴰ z (map bare_stop d.stops)
  stop_into z j =
      let n = Memᴰ.of_map bare_stop c.stops j in
      let h : Stop = n.0 in
      let u = k.stops_only h n.1 in
      let v = l.stops_every h.state u.0 u.1.0 u.1.1 in
      let w = (l.stops_only v.0 v.1).2 in
      let here : Writes (count r) (Stays r h.state) v.0.guard = rw v.2 at w in
      let g : v.0.guard ≡ h.guard =
      writes_unique (count r) (Stays r h.state) (Stays r h.state) v.0.guard h.guard here u.2 (λ p i s. s) (λ p i s. s) in
      subst (λ (y : Stop). Memᴰ y (map bare_stop d.stops)) (stop_parts h v.0 v.2 g ∙ n.2) (Memᴰ.map bare_stop v.1)

  features_one : map bare_feature c.features ≡ map bare_feature d.features
  features_one = bare_named c.features ∙ ap (λ (n : List (List ℕ)). map named n) (k.features ∙ sym l.features) ∙ sym (bare_named d.features)

  valid_one : c.valid ≡ d.valid
  valid_one = writes_unique (count r) (Valid r) (Valid r) c.valid d.valid k.valid l.valid (λ p i z. z) (λ p i z. z)

  start_one : c.start ≡ d.start
  start_one = k.start ∙ sym l.start

module _ {r c d : Sheet} (k : Clean r c) (l : Clean r d) where
  moves_one : map bare_move c.moves ≡ map bare_move d.moves
  moves_one =
      rising_one MoveBefore move_asym (map bare_move c.moves) (map bare_move d.moves) (moves_bare_rise c.moves k.moves_rise)
      (moves_bare_rise d.moves l.moves_rise) (move_into k l) (move_into l k)

  stops_one : map bare_stop c.stops ≡ map bare_stop d.stops
  stops_one =
      rising_one StopBefore stop_asym (map bare_stop c.stops) (map bare_stop d.stops) (stops_bare_rise c.stops k.stops_rise)
      (stops_bare_rise d.stops l.stops_rise) (stop_into k l) (stop_into l k)

pub clean_unique : {r c d : Sheet} → Clean r c → Clean r d → Alike c d
clean_unique k l = record {
  is = λ i. record { features = features_one k l i; valid = valid_one k l i; start = start_one k l i; moves = moves_one k l i; stops = stops_one k l i };
}

-- so its text is one
pub is_clean_unique : {r : Sheet} {x y : List ℕ} → IsClean r x → IsClean r y → x ≡ y
is_clean_unique k l = k.is ∙ alike_text (clean_unique k.clean l.clean) ∙ sym l.is
