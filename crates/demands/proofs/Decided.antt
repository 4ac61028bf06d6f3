-- What can be decided of an accepted sheet: whether a guard fails in some product; whether a valid product reaches a state, makes a move, misses it or stays;
-- and what the depth is. A way of k moves is decided move by move, and a state that is reached has a way of at most 63 moves. Assumes nothing.
use mathlib.Core.Bool.{Bool, true, false, Bool-discrete}
use mathlib.Core.List.Memᴰ
use mathlib.Core.List.{List, [], ◌∷◌, Memᴰ}
use mathlib.Core.Logic.Dec
use mathlib.Core.Logic.{◌⊎◌, inl, inr, ⊎_elim}
use mathlib.Core.Path.{◌≡◌, refl, sym, subst}
use Prim.Native.Nat.{ℕ, zero, suc, ◌^◌, ◌≤◌, ◌<◌}
use native.Mathlib.Decide.{ℕ_discrete, dec_lt}
use native.Mathlib.Nat.{eq-or-lt_of_le}
use native.Mathlib.Omega.{arith}
use borrow.Author.Tests.{ltb-true}
use lib.ListN.{length}
use Rattle.products.proofs.Ordered.{rising_total}
use Rattle.guards.specs.Guard.{Guard, holds}
use Rattle.sheet.specs.Sheet.{Move, Stop, Sheet, is_product, is_valid}
use Rattle.sheet.specs.Accepted.{Accepted}
use Rattle.family.specs.Ways.{Valid, Reached, Way, none, more, Fewest, Depth}
use Rattle.family.proofs.Steps.{reached_way, way_reached}
use Rattle.family.proofs.Meaning.{reached_state, product_small, fewest_small}
use Rattle.verdicts.specs.Verdicts.{Makes, MadeIn, MissedIn, HoldsInEvery, FailsInSome, LeadsOut, Stuck, ReachedIn, Declares, UntrueIn, Named}
use Rattle.normal.specs.Clean.{Stays, Leaves}
use Rattle.normal.proofs.Faultless.{line_goes}

-- ---- decisions

dec_or : {A B : Type 0} → Dec A → Dec B → Dec (A ⊎ B)
dec_or (yes a) d = yes (inl a)
dec_or (no n) (yes b) = yes (inr b)
dec_or (no n) (no o) = no (λ z. ⊎_elim n o z)

-- what is true of the first and of all others of a list
pub of_more : {A : Type 0} {Q : A → Type 0} {x : A} {xs : List A} → Q x → ((y : A) → Memᴰ y xs → Q y) → (y : A) → Memᴰ y (x ∷ xs) → Q y
of_more {Q = Q} h f y i = ⊎_elim (λ e. subst Q (sym e) h) (f y) (Memᴰ.cases_cons i)

-- one of a list has the property
pub dec_some : {A : Type 0} {P : A → Type 0} → ((x : A) → Dec (P x)) → (xs : List A) → Dec ((x : A) × Memᴰ x xs × P x)
dec_some dec [] = no (λ z. Memᴰ.not-nil z.1)
dec_some {A} {P} dec (x ∷ xs) = go (dec x) (dec_some dec xs)
  where
    go : Dec (P x) → Dec ((y : A) × Memᴰ y xs × P y) → Dec ((y : A) × Memᴰ y (x ∷ xs) × P y)
    go (yes h) d = yes (x, Memᴰ.head refl, h)
    go (no n) (yes z) = yes (z.0, Memᴰ.tail z.1, z.2)
    go (no n) (no o) = no (λ z. of_more {Q = λ y. P y → ⊥} n (λ y i h. o (y, i, h)) z.0 z.1 z.2)

-- ---- the first of the numbers below n, in any order that is total

pub below_more : {Q : ℕ → Type 0} {n : ℕ} → ((j : ℕ) → j < n → Q j) → Q n → (j : ℕ) → j < suc n → Q j
below_more {Q} {n} f h j l = ⊎_elim (λ (e : j ≡ n). subst Q (sym e) h) (λ (k : j < n). f j k) (eq-or-lt_of_le (omega arith))

-- k has the property P, and stands before every number below n that has it
pub record First (R : ℕ → ℕ → Type 0) (P : ℕ → Type 0) (n k : ℕ) : Type 0 where
  pub is : P k
  pub first : (j : ℕ) → j < n → P j → R k j

-- what a search tells
abbrev pub Search : (ℕ → ℕ → Type 0) → (ℕ → Type 0) → ℕ → Type 0
Search R P n = ((k : ℕ) × First R P n k) ⊎ ((j : ℕ) → j < n → P j → ⊥)

module _ {R : ℕ → ℕ → Type 0} (total : (a b : ℕ) → R a b ⊎ R b a) (trans : (a b c : ℕ) → R a b → R b c → R a c)
    {P : ℕ → Type 0} (dec : (k : ℕ) → Dec (P k)) where
  self : (k : ℕ) → R k k
  self k = ⊎_elim (λ h. h) (λ h. h) (total k k)

  pub search_below : (n : ℕ) → Search R P n
  search_below zero = inr (λ j l. absurd (omega arith))
  search_below (suc n) = go (search_below n) (dec n)
    where
      go : Search R P n → Dec (P n) → Search R P (suc n)
      go (inl (k, f)) (yes p) =
          ⊎_elim
          (λ (l : R k n). inl (k, record { is = f.is; first = below_more f.first (λ q. l) }))
          (λ (l : R n k). inl (n, record { is = p; first = below_more (λ j b q. trans n k j l (f.first j b q)) (λ q. self n) }))
          (total k n)
      go (inl (k, f)) (no o) = inl (k, record { is = f.is; first = below_more f.first (λ q. absurd (o q)) })
      go (inr f) (yes p) = inl (n, record { is = p; first = below_more (λ j b q. absurd (f j b q)) (λ q. self n) })
      go (inr f) (no o) = inr (below_more f o)

le_through : (a b c : ℕ) → a ≤ b → b ≤ c → a ≤ c
le_through a b c h l = omega arith

-- the smallest
least_below : {P : ℕ → Type 0} → ((k : ℕ) → Dec (P k)) → (n : ℕ) → Search ◌≤◌ P n
least_below = search_below rising_total le_through

-- some number has the property, where only numbers below n have it
dec_below : {P : ℕ → Type 0} (n : ℕ) → ((k : ℕ) → Dec (P k)) → ((k : ℕ) → P k → k < n) → Dec ((k : ℕ) × P k)
dec_below {P} n dec small = go (least_below dec n)
  where
    go : Search ◌≤◌ P n → Dec ((k : ℕ) × P k)
    go (inl (k, f)) = yes (k, f.is)
    go (inr f) = no (λ z. f z.0 (small z.0 z.1) z.1)

-- ---- guards and ways

-- a guard fails in some product of the sheet's features, or holds in every one
module _ (r : Sheet) (g : Guard) where
  pub dec_fails : Dec (FailsInSome r g)
  dec_fails =
      Dec.of_iff (λ z. (z.0, z.1.0, z.1.1), λ z. (z.0, (z.1, z.2)))
      (dec_below (2 ^ length r.features) (λ p. Dec.and (Bool-discrete (is_product r p) true) (Bool-discrete (holds g p) false)) (λ p z. ltb-true p (2 ^ length r.features) z.0))

  pub holds_unless : (FailsInSome r g → ⊥) → HoldsInEvery r g
  holds_unless n p e = go (holds g p) refl
    where
      go : (b : Bool) → holds g p ≡ b → b ≡ true
      go true h = refl
      go false h = absurd (n (p, e, h))

dec_held : (g : Guard) (p : ℕ) → Dec (holds g p ≡ true)
dec_held g p = Bool-discrete (holds g p) true

-- the last move of a way to q, behind k others
abbrev Last : Sheet → ℕ → ℕ → ℕ → Type 0
Last r p k q = (m : Move) × Memᴰ m r.moves × ((m.to ≡ q) × (Way r p k m.from × (holds m.guard p ≡ true)))

module _ {r : Sheet} {p : ℕ} where
  way_none : {q : ℕ} → Way r p zero q → r.start ≡ q
  way_none none = refl

  way_last : {k q : ℕ} → Way r p (suc k) q → Last r p k q
  way_last (more {m = m} i w h) = (m, i, (refl, (w, h)))

  last_way : {k q : ℕ} → Last r p k q → Way r p (suc k) q
  last_way {k} (m, i, (e, (w, h))) = subst (λ (x : ℕ). Way r p (suc k) x) e (more i w h)

  pub dec_way : (k q : ℕ) → Dec (Way r p k q)
  dec_way zero q = Dec.of_iff (λ e. subst (λ (x : ℕ). Way r p zero x) e none, way_none) (ℕ_discrete r.start q)
  dec_way (suc k) q =
      Dec.of_iff (last_way, way_last) (dec_some (λ m. Dec.and (ℕ_discrete m.to q) (Dec.and (dec_way k m.from) (dec_held m.guard p))) r.moves)

  -- where there is a way, there is one of the fewest moves
  pub fewest_of : {k q : ℕ} → Way r p k q → (j : ℕ) × Fewest r p q j
  fewest_of {k} {q} w = go (least_below (λ j. dec_way j q) (suc k))
    where
      go : Search ◌≤◌ (λ j. Way r p j q) (suc k) → (j : ℕ) × Fewest r p q j
      go (inl (j, f)) = (j, record { way = f.is; fewest = λ i u. at i u (dec_lt i (suc k)) })
        where
          at : (i : ℕ) → Way r p i q → Dec (i < suc k) → j ≤ i
          at i u (yes l) = f.first i l u
          at i u (no n) = omega (arith, f.first k (omega arith) w)
      go (inr f) = absurd (f k (omega arith) w)

  pub dec_fewest : (q k : ℕ) → Dec (Fewest r p q k)
  dec_fewest q k = go (dec_way k q)
    where
      go : Dec (Way r p k q) → Dec (Fewest r p q k)
      go (no n) = no (λ f. n f.way)
      go (yes w) =
          let (j, f) = fewest_of w in
          Dec.of_iff (λ e. subst (λ (i : ℕ). Fewest r p q i) e f, λ h. omega (arith, f.fewest k h.way, h.fewest j f.way)) (ℕ_discrete j k)

pub dec_valid : (r : Sheet) (p : ℕ) → Dec (Valid r p)
dec_valid r p = Dec.of_iff (λ e. record { is = e }, λ v. v.is) (Bool-discrete (is_valid r p) true)

module _ {r : Sheet} (ok : Accepted r) where
  -- some product has a property that only valid products have
  pub dec_product : {P : ℕ → Type 0} → ((p : ℕ) → Dec (P p)) → ((p : ℕ) → P p → Valid r p) → Dec ((p : ℕ) × P p)
  dec_product dec valid = dec_below 1024 dec (λ p h. product_small ok (valid p h))

  -- 63 moves are enough
  pub dec_reached : {p : ℕ} → Valid r p → (q : ℕ) → Dec (Reached r p q)
  dec_reached {p} v q = go (least_below (λ k. dec_way k q) 64)
    where
      go : Search ◌≤◌ (λ k. Way r p k q) 64 → Dec (Reached r p q)
      go (inl (k, f)) = yes (way_reached f.is)
      go (inr f) = no (λ w. let (k, h) = fewest_of (reached_way w).1 in f k (omega (arith, fewest_small ok v h)) h.way)

  pub dec_reached_in : (q p : ℕ) → Dec (ReachedIn r q p)
  dec_reached_in q p = go (dec_valid r p)
    where
      go : Dec (Valid r p) → Dec (ReachedIn r q p)
      go (yes v) = Dec.of_iff (λ w. record { valid = v; reached = w }, λ i. i.reached) (dec_reached v q)
      go (no n) = no (λ i. n i.valid)

  -- ---- the depth

  abbrev Deep : ℕ → Type 0
  Deep d = (p : ℕ) × (Valid r p × ((q : ℕ) × Fewest r p q d))

  dec_deep : (d : ℕ) → Dec (Deep d)
  dec_deep d =
      dec_product (λ p. Dec.and (dec_valid r p) (dec_below 64 (λ q. dec_fewest q d) (λ q f. reached_state ok (way_reached f.way)))) (λ p z. z.0)

  -- the largest of the fewest moves
  pub depth_of : (d : ℕ) × Depth r d
  depth_of = go (search_below {R = λ a b. b ≤ a} (λ a b. rising_total b a) (λ a b c h l. le_through c b a l h) dec_deep 64)
    where
      go : Search (λ a b. b ≤ a) Deep 64 → (d : ℕ) × Depth r d
      go (inl (d, f)) =
          let z = f.is in (
            d,
            record {
              largest = λ p q k v w. f.first k (omega (arith, fewest_small ok v w)) (p, (v, (q, w)));
              attained = (z.0, z.1.1.0, z.1.0, z.1.1.1);
            },
          )
      go (inr f) =
          absurd (f 0 (omega arith) (ok.allowed.0, (record { is = ok.allowed.1 }, (r.start, record { way = none; fewest = λ j w. omega arith }))))

  -- ---- moves

  pub dec_made : (m : Move) (p : ℕ) → Dec (MadeIn r m p)
  dec_made m p =
      Dec.of_iff (
        λ z. record { valid = z.0.valid; makes = record { reached = z.0.reached; held = z.1 } },
        λ i. (record { valid = i.valid; reached = i.makes.reached }, i.makes.held),
      )
      (Dec.and (dec_reached_in m.from p) (dec_held m.guard p))

  pub dec_missed : (m : Move) (p : ℕ) → Dec (MissedIn r m p)
  dec_missed m p =
      Dec.of_iff (
        λ z. record { valid = z.0.valid; reached = z.0.reached; unmade = λ k. z.1 k.held },
        λ i. (record { valid = i.valid; reached = i.reached }, λ h. i.unmade (record { reached = i.reached; held = h })),
      )
      (Dec.and (dec_reached_in m.from p) (Dec.not (dec_held m.guard p)))

  -- what no product misses is made by all
  pub made_by_all : {m : Move} → ((p : ℕ) → MissedIn r m p → ⊥) → (p : ℕ) → Valid r p → Reached r p m.from → Makes r p m
  made_by_all {m} f p v w = go (dec_held m.guard p)
    where
      go : Dec (holds m.guard p ≡ true) → Makes r p m
      go (yes h) = record { reached = w; held = h }
      go (no n) = absurd (f p (record { valid = v; reached = w; unmade = λ k. n k.held }))

  -- ---- states

  pub dec_named : (q : ℕ) → Dec (Named r q)
  dec_named q =
      dec_or (ℕ_discrete q r.start)
      (dec_or (dec_some (λ m. dec_or (ℕ_discrete q m.from) (ℕ_discrete q m.to)) r.moves) (dec_some (λ d. ℕ_discrete q d.state) r.stops))

  pub dec_leads_out : (q : ℕ) → Dec ((m : Move) × LeadsOut r q m)
  dec_leads_out q =
      Dec.of_iff (λ z. (z.0, record { there = z.1; source = z.2 }), λ z. (z.0, z.1.there, z.1.source))
      (dec_some (λ m. ℕ_discrete m.from q) r.moves)

  -- a move out of the state has a guard that holds in p
  pub record Open (q p : ℕ) : Type 0 where
    pub move : Move
    pub out : LeadsOut r q move
    pub held : holds move.guard p ≡ true

  open_makes : {q p : ℕ} → Reached r p q → (o : Open q p) → Makes r p o.move
  open_makes w o = let e = o.out.source in record { reached = rw e w; held = o.held }

  pub dec_open : (q p : ℕ) → Dec (Open q p)
  dec_open q p =
      Dec.of_iff (
        λ z. record { move = z.0; out = record { there = z.1; source = z.2.0 }; held = z.2.1 },
        λ o. (o.move, o.out.there, (o.out.source, o.held)),
      )
      (dec_some (λ m. Dec.and (ℕ_discrete m.from q) (dec_held m.guard p)) r.moves)

  pub dec_stays : (q p : ℕ) → Dec (Stays r q p)
  dec_stays q p =
      Dec.of_iff (
        λ z. record {
          valid = z.0.valid;
          reached = z.0.reached;
          none = λ a t g. z.1 (record { move = g.move; out = record { there = g.there; source = g.from }; held = g.makes.held });
        },
        λ s. (
          record { valid = s.valid; reached = s.reached },
          λ o. s.none o.move.action o.move.to (line_goes o.out (open_makes s.reached o)),
        ),
      )
      (Dec.and (dec_reached_in q p) (Dec.not (dec_open q p)))

  pub dec_stuck : (q p : ℕ) → Dec (Stuck r q p)
  dec_stuck q p =
      Dec.of_iff (
        λ z. record {
          valid = z.0.valid;
          reached = z.0.reached;
          makes_none = λ m l k. z.1.0 (record { move = m; out = l; held = k.held });
          undeclared = λ d i e h. z.1.1 (d, i, (e, h));
        },
        λ s. (
          record { valid = s.valid; reached = s.reached },
          (λ o. s.makes_none o.move o.out (open_makes s.reached o), λ z. s.undeclared z.0 z.1 z.2.0 z.2.1),
        ),
      )
      (Dec.and (dec_reached_in q p)
      (Dec.and (Dec.not (dec_open q p)) (Dec.not (dec_some (λ d. Dec.and (ℕ_discrete d.state q) (dec_held d.guard p)) r.stops))))

  pub dec_leaves : (q : ℕ) → Dec (Leaves r q)
  dec_leaves q = Dec.of_iff (there, back) (dec_product (λ p. Dec.and (dec_reached_in q p) (dec_open q p)) (λ p z. z.0.valid))
    where
      there : (p : ℕ) × (ReachedIn r q p × Open q p) → Leaves r q
      there (p, (w, o)) =
          record {
            action = o.move.action;
            to = o.move.to;
            kept = record { product = p; made = record { valid = w.valid; goes = line_goes o.out (open_makes w.reached o) } };
          }

      back : Leaves r q → (p : ℕ) × (ReachedIn r q p × Open q p)
      back l =
          let k = l.kept in
          let g = k.made.goes in (
            k.product,
            (
              record { valid = k.made.valid; reached = subst (λ (x : ℕ). Reached r k.product x) g.from g.makes.reached },
              record { move = g.move; out = record { there = g.there; source = g.from }; held = g.makes.held },
            ),
          )

  -- ---- stop lines

  pub dec_declares : (d : Stop) (p : ℕ) → Dec (Declares r d p)
  dec_declares d p =
      Dec.of_iff (
        λ z. record { valid = z.0.valid; reached = z.0.reached; held = z.1 },
        λ i. (record { valid = i.valid; reached = i.reached }, i.held),
      )
      (Dec.and (dec_reached_in d.state p) (dec_held d.guard p))

  pub dec_untrue : (d : Stop) (p : ℕ) → Dec (UntrueIn r d p)
  dec_untrue d p =
      Dec.of_iff (
        λ z. record { declares = z.0; move = z.1.move; out = z.1.out; makes = open_makes z.0.reached z.1 },
        λ i. (i.declares, record { move = i.move; out = i.out; held = i.makes.held }),
      )
      (Dec.and (dec_declares d p) (dec_open d.state p))
