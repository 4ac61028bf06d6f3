-- The order of lists of bytes is strict and total, and a row is put in front of the first that it is before. So the rows in order are the rows with the
-- property, each once, none before an earlier one, and each before all later ones where no two have the same key. Assumes nothing.
use Rattle.std.proofs.Common.{◌≡◌, Bool, true, false, cond, true≢false, ◌⊎◌, List, [], ◌∷◌, ◌++◌, ℕ, zero, suc, ◌%◌, ◌≤◌, ◌<◌, length, get_or, take, drop, refl, sym, ap, ap₂, ◌∙◌, inl, inr, ⊎_elim, arith, lt-ltb, le-ltb, eq-eqb, ne_eqb}
use mathlib.Core.List.Memᴰ
use mathlib.Core.List.{Memᴰ}
use lib.ListN.{get_or-append}
use Rattle.ordering.specs.Ordering.{less_bytes, row_key, key_at, insert_by, Ordered, none, takes, passes, Orders}
use Rattle.ordering.specs.Inside.{Level}

-- ---- the order of lists

pub never : {t : Bool} → t ≡ true → t ≡ false → ⊥
never h g = true≢false (sym h ∙ g)

pub compared : (x y : ℕ) → (x < y) ⊎ ((x ≡ y) ⊎ (y < x))
compared zero zero = inr (inl refl)
compared zero (suc y) = inl (omega arith)
compared (suc x) zero = inr (inr (omega arith))
compared (suc x) (suc y) = ⊎_elim (λ h. inl (omega arith)) (λ g. inr (⊎_elim (λ e. inl (ap suc e)) (λ h. inr (omega arith)) g)) (compared x y)

pub less_first : (x y : ℕ) (xs ys : List ℕ) → x < y → less_bytes (x ∷ xs) (y ∷ ys) ≡ true
unfolding less_bytes
less_first x y xs ys h = rw (lt-ltb x y h)

pub less_not : (x y : ℕ) (xs ys : List ℕ) → y < x → less_bytes (x ∷ xs) (y ∷ ys) ≡ false
unfolding less_bytes
less_not x y xs ys h = rw (le-ltb x y (omega arith), ne_eqb x y (λ e. omega arith))

pub less_rest : (x y : ℕ) (xs ys : List ℕ) → x ≡ y → less_bytes (x ∷ xs) (y ∷ ys) ≡ less_bytes xs ys
unfolding less_bytes
less_rest x y xs ys e = rw (le-ltb x y (omega arith), eq-eqb x y e)

-- at the first place one is before the other, or the rest decides
pub less_cases : (x y : ℕ) (xs ys : List ℕ) → less_bytes (x ∷ xs) (y ∷ ys) ≡ true → (x < y) ⊎ ((x ≡ y) × (less_bytes xs ys ≡ true))
less_cases x y xs ys h =
    ⊎_elim
    (λ l. inl l)
    (λ g. ⊎_elim (λ e. inr (e, sym (less_rest x y xs ys e) ∙ h)) (λ l. absurd (never h (less_not x y xs ys l))) g)
    (compared x y)

pub less_irrefl : (x : List ℕ) → less_bytes x x ≡ false
unfolding less_bytes
less_irrefl [] = refl
less_irrefl (a ∷ x) = less_rest a a x x refl ∙ less_irrefl x

pub less_trans : (x y z : List ℕ) → less_bytes x y ≡ true → less_bytes y z ≡ true → less_bytes x z ≡ true
unfolding less_bytes
less_trans [] [] z h g = cc
less_trans [] (b ∷ y) [] h g = cc
less_trans [] (b ∷ y) (c ∷ z) h g = refl
less_trans (a ∷ x) [] z h g = cc
less_trans (a ∷ x) (b ∷ y) [] h g = cc
less_trans (a ∷ x) (b ∷ y) (c ∷ z) h g = step (less_cases a b x y h) (less_cases b c y z g) (less_trans x y z)
  where
    step : (a < b) ⊎ ((a ≡ b) × (less_bytes x y ≡ true)) → (b < c) ⊎ ((b ≡ c) × (less_bytes y z ≡ true))
        → (less_bytes x y ≡ true → less_bytes y z ≡ true → less_bytes x z ≡ true) → less_bytes (a ∷ x) (c ∷ z) ≡ true
    step (inl l) (inl m) k = less_first a c x z (omega arith)
    step (inl l) (inr m) k = let e = m.0 in less_first a c x z (omega arith)
    step (inr l) (inl m) k = let e = l.0 in less_first a c x z (omega arith)
    step (inr l) (inr m) k = less_rest a c x z (l.0 ∙ m.0) ∙ k l.1 m.1

pub less_other : (x y : List ℕ) → less_bytes x y ≡ true → x ≡ y → ⊥
less_other x y h e = never h (rw e (less_irrefl y))

pub less_asym : (x y : List ℕ) → less_bytes x y ≡ true → less_bytes y x ≡ false
less_asym x y h = decided (less_bytes y x) refl
  where
    decided : (t : Bool) → less_bytes y x ≡ t → less_bytes y x ≡ false
    decided true e = absurd (never (less_trans x y x h e) (less_irrefl x))
    decided false e = e

pub less_total : (x y : List ℕ) → (x ≡ y → ⊥) → less_bytes x y ≡ false → less_bytes y x ≡ true
unfolding less_bytes
less_total [] [] f h = absurd (f refl)
less_total [] (b ∷ y) f h = cc
less_total (a ∷ x) [] f h = refl
less_total (a ∷ x) (b ∷ y) f h = step (compared a b) (less_total x y)
  where
    step : (a < b) ⊎ ((a ≡ b) ⊎ (b < a)) → ((x ≡ y → ⊥) → less_bytes x y ≡ false → less_bytes y x ≡ true) → less_bytes (b ∷ y) (a ∷ x) ≡ true
    step (inl l) k = absurd (never (less_first a b x y l) h)
    step (inr (inl e)) k = less_rest b a y x (sym e) ∙ k (λ d. f (ap₂ (λ (c : ℕ) (l : List ℕ). c ∷ l) e d)) (sym (less_rest a b x y e) ∙ h)
    step (inr (inr l)) k = less_first b a y x l

-- what is not before y, which x is before, is behind x
pub less_near : (x y z : List ℕ) → less_bytes x y ≡ true → less_bytes z y ≡ false → less_bytes x z ≡ true
less_near x y z h g = decided (less_bytes x z) refl
  where
    decided : (t : Bool) → less_bytes x z ≡ t → less_bytes x z ≡ true
    decided true e = e
    decided false e = absurd (never (less_trans z x y (less_total x z (λ d. never h (rw d g)) e) h) g)

-- ---- a row put in its place

pub insert_here : (key : ℕ → List ℕ) (x : ℕ) (ys : List ℕ) → Memᴰ x (insert_by key x ys)
unfolding insert_by
insert_here key x [] = Memᴰ.head refl
insert_here key x (y ∷ ys) = go (less_bytes (key x) (key y)) (insert_here key x ys)
  where
    go : (t : Bool) → Memᴰ x (insert_by key x ys) → Memᴰ x (cond t (x ∷ y ∷ ys) (y ∷ insert_by key x ys))
    go true m = Memᴰ.head refl
    go false m = Memᴰ.tail m

pub insert_there : (key : ℕ → List ℕ) (x : ℕ) (ys : List ℕ) (z : ℕ) → Memᴰ z ys → Memᴰ z (insert_by key x ys)
unfolding insert_by
insert_there key x [] z m = absurd (Memᴰ.not-nil m)
insert_there key x (y ∷ ys) z m = go (less_bytes (key x) (key y)) (Memᴰ.cases_cons m) (insert_there key x ys z)
  where
    go : (t : Bool) → (z ≡ y) ⊎ Memᴰ z ys → (Memᴰ z ys → Memᴰ z (insert_by key x ys))
        → Memᴰ z (cond t (x ∷ y ∷ ys) (y ∷ insert_by key x ys))
    go true e f = Memᴰ.tail m
    go false (inl e) f = Memᴰ.head e
    go false (inr n) f = Memᴰ.tail (f n)

pub insert_in : (key : ℕ → List ℕ) (x : ℕ) (ys : List ℕ) (z : ℕ) → Memᴰ z (insert_by key x ys) → (z ≡ x) ⊎ Memᴰ z ys
unfolding insert_by
insert_in key x [] z m = Memᴰ.cases_cons m
insert_in key x (y ∷ ys) z m = go (less_bytes (key x) (key y)) m (insert_in key x ys z)
  where
    go : (t : Bool) → Memᴰ z (cond t (x ∷ y ∷ ys) (y ∷ insert_by key x ys)) → (Memᴰ z (insert_by key x ys) → (z ≡ x) ⊎ Memᴰ z ys)
        → (z ≡ x) ⊎ Memᴰ z (y ∷ ys)
    go true n f = Memᴰ.cases_cons n
    go false n f =
        ⊎_elim
        (λ e. inr (Memᴰ.head e))
        (λ k. ⊎_elim (λ e. inl e) (λ l. inr (Memᴰ.tail l)) (f k))
        (Memᴰ.cases_cons n)

pub insert_length : (key : ℕ → List ℕ) (x : ℕ) (ys : List ℕ) → length (insert_by key x ys) ≡ suc (length ys)
unfolding insert_by
insert_length key x [] = refl
insert_length key x (y ∷ ys) = go (less_bytes (key x) (key y)) (insert_length key x ys)
  where
    go : (t : Bool) → length (insert_by key x ys) ≡ suc (length ys) → length (cond t (x ∷ y ∷ ys) (y ∷ insert_by key x ys)) ≡ suc (suc (length ys))
    go true f = refl
    go false f = ap suc f

-- it stands behind those that it is not before, if it is before all others
pub insert_at : (key : ℕ → List ℕ) (x : ℕ) (ys : List ℕ) (p : ℕ) → p ≤ length ys → ((i : ℕ) → i < p → less_bytes (key x) (key (get_or ys i 0)) ≡ false)
    → ((i : ℕ) → p ≤ i → i < length ys → less_bytes (key x) (key (get_or ys i 0)) ≡ true) → insert_by key x ys ≡ take p ys ++ (x ∷ drop p ys)
unfolding insert_by
insert_at key x [] zero h f g = refl
insert_at key x [] (suc p) h f g = absurd (omega arith)
insert_at key x (y ∷ ys) zero h f g = rw (g 0 (omega arith) (omega arith))
insert_at key x (y ∷ ys) (suc p) h f g =
    let e = insert_at key x ys p (omega arith) (λ i l. f (suc i) (omega arith)) (λ i l m. g (suc i) (omega arith) (omega arith)) in
    rw (f 0 (omega arith), e)

-- ---- rising lists

-- each stands in the relation R to all later ones
pub data Climbs (R : ℕ → ℕ → Type 0) : List ℕ → Type 0 where
  ends : Climbs R []
  begins : {x : ℕ} {xs : List ℕ} → ((y : ℕ) → Memᴰ y xs → R x y) → Climbs R xs → Climbs R (x ∷ xs)

pub mem_at : (l : List ℕ) (k : ℕ) → k < length l → Memᴰ (get_or l k 0) l
mem_at [] k h = absurd (omega arith)
mem_at (x ∷ l) zero h = Memᴰ.head refl
mem_at (x ∷ l) (suc k) h = Memᴰ.tail (mem_at l k (omega arith))

pub place_of_lem : {x : ℕ} {l : List ℕ} → Memᴰ x l → (k : ℕ) × (k < length l) × (get_or l k 0 ≡ x)
place_of_lem (Memᴰ.head e) = (0, omega arith, sym e)
place_of_lem (Memᴰ.tail m) = let p = place_of_lem m in let h = p.1 in (suc p.0, omega arith, p.2)

pub climbs_at : {R : ℕ → ℕ → Type 0} {xs : List ℕ} → Climbs R xs → (i j : ℕ) → i < j → j < length xs → R (get_or xs i 0) (get_or xs j 0)
climbs_at ends i j h l = absurd (omega arith)
climbs_at (begins {x} {xs} f c) i zero h l = absurd (omega arith)
climbs_at (begins {x} {xs} f c) zero (suc j) h l = f (get_or xs j 0) (mem_at xs j (omega arith))
climbs_at (begins {x} {xs} f c) (suc i) (suc j) h l = climbs_at c i j (omega arith) (omega arith)

-- it is enough that R follows the order of the keys
module _ {R : ℕ → ℕ → Type 0} (key : ℕ → List ℕ) (x : ℕ) (front : (y : ℕ) → less_bytes (key x) (key y) ≡ true → R x y)
    (past : (y z : ℕ) → less_bytes (key x) (key y) ≡ true → R y z → R x z) where
  pub climbs_insert : {ys : List ℕ} → Climbs R ys → ((y : ℕ) → Memᴰ y ys → less_bytes (key x) (key y) ≡ false → R y x)
      → Climbs R (insert_by key x ys)
  unfolding insert_by
  climbs_insert ends back = begins (λ y m. absurd (Memᴰ.not-nil m)) ends
  climbs_insert (begins {x = y} {xs = ys} b c) back =
      go (less_bytes (key x) (key y)) refl (climbs_insert c (λ z m. back z (Memᴰ.tail m)))
    where
      go : (t : Bool) → less_bytes (key x) (key y) ≡ t → Climbs R (insert_by key x ys) → Climbs R (cond t (x ∷ y ∷ ys) (y ∷ insert_by key x ys))
      go true l d = begins (λ z m. ⊎_elim (λ k. rw k (front y l)) (λ n. past y z l (b z n)) (Memᴰ.cases_cons m)) (begins b c)
      go false l d = begins (λ z m. ⊎_elim (λ k. rw k (back y (Memᴰ.head refl) l)) (λ n. b z n) (insert_in key x ys z m)) d

-- ---- the rows in order

below : (i n : ℕ) → i < suc n → (i < n) ⊎ (i ≡ n)
below i n h = ⊎_elim (λ l. inl l) (λ g. ⊎_elim (λ e. inr e) (λ l. absurd (omega arith)) g) (compared i n)

module _ {key : ℕ → List ℕ} {P : ℕ → Type 0} where
  pub ordered_in : {n i : ℕ} {xs : List ℕ} → Ordered key P n xs → Memᴰ i xs → (i < n) × P i
  ordered_in none m = absurd (Memᴰ.not-nil m)
  ordered_in {i = i} (takes {n} {xs} p o) m =
      ⊎_elim (λ e. (omega arith, rw e p)) (λ k. let r = ordered_in o k in let l = r.0 in (omega arith, r.1)) (insert_in key n xs i m)
  ordered_in (passes f o) m = let r = ordered_in o m in let l = r.0 in (omega arith, r.1)

  pub ordered_of : {n : ℕ} {xs : List ℕ} → Ordered key P n xs → (i : ℕ) → i < n → P i → Memᴰ i xs
  ordered_of none i h q = absurd (omega arith)
  ordered_of (takes {n} {xs} p o) i h q =
      ⊎_elim (λ l. insert_there key n xs i (ordered_of o i l q)) (λ e. rw e (insert_here key n xs)) (below i n h)
  ordered_of (passes {n} f o) i h q = ⊎_elim (λ l. ordered_of o i l q) (λ e. absurd (f (rw e at q))) (below i n h)

  ordered_climbs : {R : ℕ → ℕ → Type 0} → ((x y : ℕ) → less_bytes (key x) (key y) ≡ true → R x y)
      → ((x y z : ℕ) → less_bytes (key x) (key y) ≡ true → R y z → R x z) → {n : ℕ} {xs : List ℕ} → Ordered key P n xs
      → ((i j : ℕ) → i < j → j < n → less_bytes (key j) (key i) ≡ false → R i j) → Climbs R xs
  ordered_climbs front past none back = ends
  ordered_climbs front past (takes {n} p o) back =
      climbs_insert
      key
      n
      (front n)
      (past n)
      (ordered_climbs front past o (λ i j h l. back i j h (omega arith)))
      (λ y m e. back y n (ordered_in o m).0 (omega arith) e)
  ordered_climbs front past (passes g o) back = ordered_climbs front past o (λ i j h l. back i j h (omega arith))

  -- where no two have the same key, each is before all later ones; in any case none is before an earlier one
  pub ordered_rise : {n : ℕ} {xs : List ℕ} → Ordered key P n xs → ((i j : ℕ) → i < n → j < n → key i ≡ key j → i ≡ j)
      → Climbs (λ i j. less_bytes (key i) (key j) ≡ true) xs
  ordered_rise o f =
      ordered_climbs
      (λ x y h. h)
      (λ x y z. less_trans (key x) (key y) (key z))
      o
      (λ i j h l e. less_total (key j) (key i) (λ d. let g = f j i l (omega arith) d in omega arith) e)

  pub ordered_level : {n : ℕ} {xs : List ℕ} → Ordered key P n xs → Climbs (λ i j. less_bytes (key j) (key i) ≡ false) xs
  ordered_level o =
      ordered_climbs
      (λ x y h. less_asym (key x) (key y) h)
      (λ x y z h e. less_asym (key x) (key z) (less_near (key x) (key y) (key z) h e))
      o
      (λ i j h l e. e)

  pub ordered_few : {n : ℕ} {xs : List ℕ} → Ordered key P n xs → length xs ≤ n
  ordered_few none = omega arith
  ordered_few (takes {n} {xs} p o) = let h = ordered_few o in omega (arith, insert_length key n xs)
  ordered_few (passes f o) = let h = ordered_few o in omega arith

  pub ordered_one : {n : ℕ} {xs ys : List ℕ} → Ordered key P n xs → Ordered key P n ys → xs ≡ ys
  ordered_one none none = refl
  ordered_one (takes {n} p o) (takes q u) = ap (insert_by key n) (ordered_one o u)
  ordered_one (takes p o) (passes f u) = absurd (f p)
  ordered_one (passes f o) (takes q u) = absurd (f q)
  ordered_one (passes f o) (passes g u) = ordered_one o u

-- ---- as the code leaves them: the first r places of a lent array

module _ {key : ℕ → List ℕ} {P : ℕ → Type 0} {n r : ℕ} {order order' : List ℕ} (o : Orders key P n order order' r) where
  pub orders_few : r ≤ n
  orders_few = omega (arith, ordered_few o.ordered)

  pub orders_at : (i : ℕ) → i < r → get_or order' i 0 ≡ get_or o.rows i 0
  orders_at i h = rw o.laid (get_or-append o.rows (drop r order) 0 i (omega arith))

  pub orders_in : (i : ℕ) → i < r → Memᴰ (get_or order' i 0) o.rows
  orders_in i h = rw (orders_at i h) (mem_at o.rows i (omega arith))

  -- each is the number of a row with the property, and each such row has its place
  pub orders_low : (i : ℕ) → i < r → get_or order' i 0 < n
  orders_low i h = (ordered_in o.ordered (orders_in i h)).0

  pub orders_has : (i : ℕ) → i < r → P (get_or order' i 0)
  orders_has i h = (ordered_in o.ordered (orders_in i h)).1

  pub orders_place : (i : ℕ) → i < n → P i → (k : ℕ) × (k < r) × (get_or order' k 0 ≡ i)
  orders_place i h p =
      let q = place_of_lem (ordered_of o.ordered i h p) in
      let l = q.1 in
      let s : q.0 < r = omega arith in
      (q.0, s, orders_at q.0 s ∙ q.2)

  pub orders_level : Level key r order'
  orders_level =
      record { is = λ i j h l. rw (orders_at i (omega arith), orders_at j l) (climbs_at (ordered_level o.ordered) i j h (omega arith)) }

  pub orders_rise : ((i j : ℕ) → i < n → j < n → key i ≡ key j → i ≡ j) → (i j : ℕ) → i < j → j < r
      → less_bytes (key (get_or order' i 0)) (key (get_or order' j 0)) ≡ true
  orders_rise f i j h l =
      rw (orders_at i (omega arith), orders_at j l) (climbs_at (ordered_rise o.ordered f) i j h (omega arith))

-- there are 256 rows
pub key_at_lem : (s : List ℕ) (t : List (List ℕ)) (i : ℕ) → i < 256 → key_at s t i ≡ row_key s (get_or t i [])
unfolding key_at
key_at_lem s t i h = let e : i % 256 ≡ i = omega arith in rw e
