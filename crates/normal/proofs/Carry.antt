-- Sheets that behave alike have the same clean forms: every word of the definition is carried over, product by product. And the numbers of lines and
-- the places in a clean form are free. Assumes nothing.
use mathlib.Core.Path.{◌≡◌, sym, ap, subst, ◌∙◌}
use mathlib.Core.List.Memᴰ
use mathlib.Core.List.{List, [], ◌∷◌, map}
use mathlib.Core.Logic.{inl, inr}
use Prim.Native.Nat.{ℕ}
use lib.ListN.{length}
use Rattle.guards.specs.Guard.{Guard}
use Rattle.sheet.specs.Sheet.{Move, Stop, Sheet, names}
use Rattle.sheet.specs.Spelling.{bare_move, bare_stop, Alike}
use Rattle.sheet.proofs.Rows.{names_length}
use Rattle.sheet.proofs.ReadBack.{alike_names, alike_valid, alike_start, alike_move, alike_stop, alike_back}
use Rattle.family.specs.Ways.{Valid}
use Rattle.splitting.specs.Splitting.{Writes}
use Rattle.splitting.proofs.Laws.{writes_as}
use Rattle.normal.specs.Behaviour.{Same}
use Rattle.normal.specs.Clean.{count, GoesIn, Kept, MadeByAll, GuardFor, Stays, Leaves, Rising, MoveBefore, StopBefore, Clean}
use Rattle.normal.proofs.Same.{same_sym, same_reached, same_reached_back}

-- ---- the words of the definition, carried over

module _ {r s : Sheet} (x : Same r s) where
  pub goes_in_there : {f t p : ℕ} {a : List ℕ} → GoesIn r f a t p → GoesIn s f a t p
  goes_in_there {f} {t} {p} {a} m = record { valid = x.valid p m.valid; goes = x.moves p f a t m.valid m.goes }

  pub kept_there : {f t : ℕ} {a : List ℕ} → Kept r f a t → Kept s f a t
  kept_there k = record { product = k.product; made = goes_in_there k.made }

  pub stays_there : {q p : ℕ} → Stays r q p → Stays s q p
  stays_there {q} {p} m = record {
    valid = x.valid p m.valid;
    reached = same_reached x m.valid m.reached;
    none = λ a t g. m.none a t (x.moves_back p q a t m.valid g);
  }

  pub leaves_there : {q : ℕ} → Leaves r q → Leaves s q
  leaves_there m = record { action = m.action; to = m.to; kept = kept_there m.kept }

  pub made_by_all_there : {f t : ℕ} {a : List ℕ} {g : Guard} → MadeByAll r f a t g → MadeByAll s f a t g
  made_by_all_there {f} {t} {a} m = record {
    every = λ p v w. let u = x.valid_back p v in x.moves p f a t u (m.every p u (same_reached_back x u w));
    guard = m.guard;
  }

-- the number of features is the number of names
pub count_names : (r s : Sheet) → names r.features ≡ names s.features → count r ≡ count s
count_names r s e = sym (names_length r.features) ∙ ap length e ∙ names_length s.features

writes_there : (n k : ℕ) (P Q : ℕ → Type 0) (g : Guard) → n ≡ k → ((p : ℕ) → P p → Q p) → ((p : ℕ) → Q p → P p) → Writes n P g → Writes k Q g
writes_there n k P Q g e a b w = subst (λ (i : ℕ). Writes i Q g) e (writes_as n P Q g w (λ p l. a p) (λ p l. b p))

pub guard_there : {r s : Sheet} → Same r s → count r ≡ count s → {f t : ℕ} {a : List ℕ} {g : Guard} → GuardFor r f a t g → GuardFor s f a t g
guard_there x e (inl m) = inl (made_by_all_there x m)
guard_there {r} {s} x e {f} {t} {a} {g} (inr m) = inr (record {
  product = m.product;
  valid = x.valid m.product m.valid;
  reached = same_reached x m.valid m.reached;
  unmade = λ k. m.unmade (x.moves_back m.product f a t m.valid k);
  guard = writes_there (count r) (count s) (GoesIn r f a t) (GoesIn s f a t) g e (λ p. goes_in_there x) (λ p. goes_in_there (same_sym x)) m.guard;
})

-- ---- what behaves alike has the same clean forms

pub carry : {r s c : Sheet} → Same r s → names r.features ≡ names s.features → Clean r c → Clean s c
carry {r} {s} {c} x n k =
    let y : Same s r = same_sym x in
    let e : count r ≡ count s = count_names r s n in
    record {
      features = k.features ∙ n;
      valid = writes_there (count r) (count s) (Valid r) (Valid s) c.valid e x.valid x.valid_back k.valid;
      start = k.start ∙ x.start;
      moves_rise = k.moves_rise;
      moves_only = λ m i. let u = k.moves_only m i in (kept_there x u.0, guard_there x e u.1);
      moves_every = λ f a t m. k.moves_every f a t (kept_there y m);
      stops_rise = k.stops_rise;
      stops_only = λ d i. let u = k.stops_only d i in (
        leaves_there x u.0,
        (u.1.0, stays_there x u.1.1),
        writes_there (count r) (count s) (Stays r d.state) (Stays s d.state) d.guard e (λ p. stays_there x) (λ p. stays_there y) u.2,
      );
      stops_every = λ q m p i. k.stops_every q (leaves_there y m) p (stays_there y i);
    }

-- ---- the clean form's numbers and places are free

module _ {A : Type 0} (R : A → A → Type 0) (f : A → A) where
  pub rising_map : ((x y : A) → R x y → R (f x) (f y)) → (xs : List A) → Rising R xs → Rising R (map f xs)
  rising_map u [] a = tt
  rising_map u (x ∷ xs) a =
      (λ y i. let k = Memᴰ.of_map f xs i in subst (λ (z : A). R z (f x)) k.2 (u k.0 x (a.0 k.0 k.1)), rising_map u xs a.1)

  pub rising_of_map : ((x y : A) → R (f x) (f y) → R x y) → (xs : List A) → Rising R (map f xs) → Rising R xs
  rising_of_map u [] a = tt
  rising_of_map u (x ∷ xs) a = (λ y i. u y x (a.0 (f y) (Memᴰ.map f i)), rising_of_map u xs a.1)

pub moves_bare_rise : (ms : List Move) → Rising MoveBefore ms → Rising MoveBefore (map bare_move ms)
moves_bare_rise = rising_map MoveBefore bare_move (λ m k h. record { is = h.is })

moves_rise_bare : (ms : List Move) → Rising MoveBefore (map bare_move ms) → Rising MoveBefore ms
moves_rise_bare = rising_of_map MoveBefore bare_move (λ m k h. record { is = h.is })

pub stops_bare_rise : (ds : List Stop) → Rising StopBefore ds → Rising StopBefore (map bare_stop ds)
stops_bare_rise = rising_map StopBefore bare_stop (λ d e h. h)

stops_rise_bare : (ds : List Stop) → Rising StopBefore (map bare_stop ds) → Rising StopBefore ds
stops_rise_bare = rising_of_map StopBefore bare_stop (λ d e h. h)

-- what a clean form says of a line depends on the bare line only
abbrev MoveKept : Sheet → Move → Type 0
MoveKept r m = Kept r m.from m.action m.to × GuardFor r m.from m.action m.to m.guard

abbrev StopKept : Sheet → Stop → Type 0
StopKept r d = Leaves r d.state × ((p : ℕ) × Stays r d.state p) × Writes (count r) (Stays r d.state) d.guard

pub clean_alike : {r c d : Sheet} → Alike c d → Clean r c → Clean r d
clean_alike {r} {c} {d} e k =
    let b : Alike d c = alike_back e in
    record {
      features = alike_names b ∙ k.features;
      valid = subst (λ (g : Guard). Writes (count r) (Valid r) g) (alike_valid e) k.valid;
      start = alike_start b ∙ k.start;
      moves_rise = moves_rise_bare d.moves (subst (λ (x : Sheet). Rising MoveBefore x.moves) e.is (moves_bare_rise c.moves k.moves_rise));
      moves_only = λ m i. let u = alike_move b i in subst (MoveKept r) u.2 (k.moves_only u.0 u.1);
      moves_every = λ f a t g.
          let v = k.moves_every f a t g in
          let u = alike_move e v.1 in (
            u.0,
            u.1,
            ap (λ (x : Move). x.from) u.2 ∙ v.2,
            ap (λ (x : Move). x.action) u.2 ∙ v.3,
            ap (λ (x : Move). x.to) u.2 ∙ v.4,
          );
      stops_rise = stops_rise_bare d.stops (subst (λ (x : Sheet). Rising StopBefore x.stops) e.is (stops_bare_rise c.stops k.stops_rise));
      stops_only = λ h i. let u = alike_stop b i in subst (StopKept r) u.2 (k.stops_only u.0 u.1);
      stops_every = λ q g p s.
          let v = k.stops_every q g p s in
          let u = alike_stop e v.1 in
          (u.0, u.1, ap (λ (x : Stop). x.state) u.2 ∙ v.2);
    }
