-- Every accepted sheet has a report and a clean sheet. Each verdict is one of its cases by what is decided of products; the clean sheet's moves are put
-- in order one after another, its stop lines go state by state, and a decided set of products has a guard. Assumes nothing.
use Rattle.std.proofs.Common.{Option, Some, None}
use mathlib.Core.Bool.{Bool, true, false, decide, decide_iff}
use mathlib.Core.List.Memᴰ
use mathlib.Core.List.{List, [], ◌∷◌, ◌++◌, Memᴰ, List-discrete}
use mathlib.Core.Logic.Dec
use mathlib.Core.Logic.{◌⊎◌, inl, inr, ⊎_elim}
use mathlib.Core.Path.{◌≡◌, refl}
use Prim.Native.Nat.{ℕ, zero, suc, ◌<◌}
use native.Mathlib.Decide.{ℕ_discrete}
use native.Mathlib.Omega.{arith}
use Rattle.products.specs.Sets.{Finds}
use Rattle.products.proofs.Ordered.{before_total, before_on}
use Rattle.guards.specs.Guard.{Guard, always}
use Rattle.sheet.specs.Sheet.{Move, Stop, Sheet}
use Rattle.sheet.specs.Spelling.{text_of}
use Rattle.sheet.specs.Accepted.{Accepted}
use Rattle.sheet.proofs.Accepted.{accepted}
use Rattle.family.specs.Ways.{Valid}
use Rattle.family.proofs.Meaning.{reached_state, product_small}
use Rattle.verdicts.specs.declared.Verdict.{Verdict}
use Rattle.verdicts.specs.declared.Verdict.TheVariants.{Dead, False, Must, May}
use Rattle.verdicts.specs.declared.StateVerdict.{StateVerdict}
use Rattle.verdicts.specs.declared.StateVerdict.TheVariants.{Unreached, End, Hidden, Live}
use Rattle.verdicts.specs.declared.StopVerdict.{StopVerdict}
use Rattle.verdicts.specs.declared.StopVerdict.TheVariants.{Untrue, Idle, True}
use Rattle.verdicts.specs.Verdicts.{MadeIn, MissedIn, FailsInSome, JudgedAs, LeadsOut, Stuck, ReachedIn, StateAs, Counted, nobody, counts, passes, Declares, UntrueIn, StopAs, Named}
use Rattle.reporting.specs.Report.{MoveRows, StateRows, StopRows, IsReport, move_row, state_row, stop_row, depth_row}
use Rattle.splitting.specs.Splitting.{guard_of, Writes}
use Rattle.splitting.proofs.Laws.{writes_of}
use Rattle.ordering.specs.Ordering.{less_bytes}
use Rattle.ordering.proofs.Laws.{less_trans, less_total}
use Rattle.normal.specs.Clean.{count, key_of, Kept, GuardFor, Stays, Leaves, Rising, MoveBefore, StopBefore, IsClean}
use Rattle.cleaning.proofs.Made.{makes_goes, made_goes, missed_goes}
use Rattle.demands.specs.Demands.{ReportExists, CleanExists}
use Rattle.demands.proofs.Decided.{of_more, below_more, Search, search_below, dec_fails, holds_unless, dec_product, dec_valid, dec_reached_in, depth_of, dec_made, dec_missed, made_by_all, dec_named, dec_leads_out, dec_stays, dec_stuck, dec_leaves, dec_declares, dec_untrue}

-- ---- the report, whatever the order by which the first product is found

-- how many numbers below n have a property that is decided
counted : {P : ℕ → Type 0} → ((k : ℕ) → Dec (P k)) → (n : ℕ) → (k : ℕ) × Counted P n k
counted dec zero = (0, nobody)
counted {P} dec (suc n) = go (dec n) (counted dec n)
  where
    go : Dec (P n) → (k : ℕ) × Counted P n k → (k : ℕ) × Counted P (suc n) k
    go (yes h) (k, c) = (suc k, counts h c)
    go (no o) (k, c) = (k, passes o c)

module _ {R : ℕ → ℕ → Type 0} (total : (a b : ℕ) → R a b ⊎ R b a) (trans : (a b c : ℕ) → R a b → R b c → R a c) {r : Sheet} (ok : Accepted r) where
  -- the first product with a property that only valid products have
  first : {P : ℕ → Type 0} → ((p : ℕ) → Dec (P p)) → ((p : ℕ) → P p → Valid r p) → (f : Option ℕ) × Finds R P f
  first {P} dec valid = go (search_below total trans dec 1024)
    where
      go : Search R P 1024 → (f : Option ℕ) × Finds R P f
      go (inl (p, f)) = (Some p, record { is = f.is; first = λ q h. f.first q (product_small ok (valid q h)) h })
      go (inr f) = (None, λ q h. f q (product_small ok (valid q h)) h)

  pub move_verdict : (m : Move) → (v : Verdict) × JudgedAs R r m v
  move_verdict m = go (first (dec_made ok m) (λ p i. i.valid)) (first (dec_missed ok m) (λ p i. i.valid)) (dec_fails r m.guard)
    where
      go : (f : Option ℕ) × Finds R (MadeIn r m) f → (f : Option ℕ) × Finds R (MissedIn r m) f → Dec (FailsInSome r m.guard)
          → (v : Verdict) × JudgedAs R r m v
      go (None, n) (f, k) a = (Dead f, (n, k))
      go (Some p, l) (f, k) (no o) = (Must p, (holds_unless r m.guard o, l))
      go (Some p, l) (None, n) (yes z) = (False p, (record { alive = (p, l.is); fails = z; every = made_by_all ok n }, l))
      go (Some p, l) (Some q, k) (yes z) = (May p q, (l, k))

  pub state_verdict : (q : ℕ) → (v : StateVerdict) × StateAs R r q v
  state_verdict q = go (first (dec_reached_in ok q) (λ p i. i.valid)) (dec_leads_out ok q) (first (dec_stuck ok q) (λ p i. i.valid))
    where
      go : (f : Option ℕ) × Finds R (ReachedIn r q) f → Dec ((m : Move) × LeadsOut r q m) → (f : Option ℕ) × Finds R (Stuck r q) f
          → (v : StateVerdict) × StateAs R r q v
      go (None, n) d s = (Unreached, n)
      go (Some p, l) (no o) s = (End, ((p, l.is), λ m i. o (m, i)))
      go (Some p, l) (yes z) (Some k, s) = (Hidden k, (z, s))
      go (Some p, l) (yes z) (None, n) = (Live, ((p, l.is), z, n))

  pub stop_verdict : (d : Stop) → (v : StopVerdict) × StopAs R r d v
  stop_verdict d = go (first (dec_untrue ok d) (λ p i. i.declares.valid)) (first (dec_declares ok d) (λ p i. i.valid))
    where
      go : (f : Option ℕ) × Finds R (UntrueIn r d) f → (f : Option ℕ) × Finds R (Declares r d) f → (v : StopVerdict) × StopAs R r d v
      go (Some p, l) f = (Untrue p, l)
      go (None, n) (None, k) = (Idle, k)
      go (None, n) (Some p, l) = (True, ((p, l.is), n))

  move_rows : (ms : List Move) → (x : List ℕ) × MoveRows R r ms x
  move_rows [] = ([], MoveRows.none)
  move_rows (m ∷ ms) =
      let (x, rows) = move_rows ms in
      let (v, judged) = move_verdict m in
      (x ++ move_row m.line v, MoveRows.next v judged rows)

  state_rows : (n : ℕ) → (x : List ℕ) × StateRows R r n x
  state_rows zero = ([], StateRows.none)
  state_rows (suc n) = go (dec_named ok n) (state_rows n)
    where
      go : Dec (Named r n) → (x : List ℕ) × StateRows R r n x → (x : List ℕ) × StateRows R r (suc n) x
      go (yes i) (x, rows) =
          let (v, judged) = state_verdict n in
          let (k, many) = counted (dec_reached_in ok n) 1024 in
          (x ++ state_row n v k, StateRows.named v i judged many rows)
      go (no o) (x, rows) = (x, StateRows.other o rows)

  stop_rows : (ds : List Stop) → (x : List ℕ) × StopRows R r ds x
  stop_rows [] = ([], StopRows.none)
  stop_rows (d ∷ ds) =
      let (x, rows) = stop_rows ds in
      let (v, judged) = stop_verdict d in
      (x ++ stop_row d.line v, StopRows.next v judged rows)

  pub report_of : (x : List ℕ) × IsReport R r x
  report_of =
      let (a, moves) = move_rows r.moves in
      let (b, states) = state_rows 64 in
      let (c, stops) = stop_rows r.stops in
      let (d, depth) = depth_of ok in (
        a ++ (b ++ (c ++ depth_row d)),
        record { moves = a; states = b; stops = c; depth = d; move_rows = moves; state_rows = states; stop_rows = stops; is_depth = depth; is = refl },
      )

pub report_exists : ReportExists
report_exists o s r e = report_of (before_total o) (before_on o) (accepted s e)

-- ---- the lines of the clean sheet

-- the guard of a set that is decided
guard_of_lem : (n : ℕ) {P : ℕ → Type 0} → ((p : ℕ) → Dec (P p)) → (g : Guard) × Writes n P g
guard_of_lem n {P} dec =
    (guard_of 0 n (λ p. decide (dec p)), writes_of n P (λ p. decide (dec p)) (λ p l. (decide_iff (dec p)).0) (λ p l. (decide_iff (dec p)).1))

sides : (x y : List ℕ) → (less_bytes x y ≡ true) ⊎ ((x ≡ y) ⊎ (less_bytes y x ≡ true))
sides x y = go (List-discrete ℕ_discrete x y) (less_bytes x y) refl
  where
    go : Dec (x ≡ y) → (b : Bool) → less_bytes x y ≡ b → (less_bytes x y ≡ true) ⊎ ((x ≡ y) ⊎ (less_bytes y x ≡ true))
    go (yes e) b h = inr (inl e)
    go (no n) true h = inl h
    go (no n) false h = inr (inr (less_total x y n h))

-- the lines ds are the lines cs and, if its triple is not there, the line k
record Put (k : Move) (cs ds : List Move) : Type 0 where
  rise : Rising MoveBefore ds
  only : (z : Move) → Memᴰ z ds → (z ≡ k) ⊎ Memᴰ z cs
  here : (z : Move) × Memᴰ z ds × (key_of z ≡ key_of k)
  others : (z : Move) → Memᴰ z cs → Memᴰ z ds

put : (k : Move) (cs : List Move) → Rising MoveBefore cs → (ds : List Move) × Put k cs ds
put k [] up = (
  k ∷ [],
  record {
    rise = (λ z i. absurd (Memᴰ.not-nil i), tt);
    only = λ z i. Memᴰ.cases_cons i;
    here = (k, Memᴰ.head refl, refl);
    others = λ z i. absurd (Memᴰ.not-nil i);
  },
)
put k (c ∷ cs) up = go (sides (key_of c) (key_of k)) (put k cs up.1)
  where
    go : (less_bytes (key_of c) (key_of k) ≡ true) ⊎ ((key_of c ≡ key_of k) ⊎ (less_bytes (key_of k) (key_of c) ≡ true)) → (ds : List Move) × Put k cs ds
        → (ds : List Move) × Put k (c ∷ cs) ds
    go (inl l) p = (
      k ∷ c ∷ cs,
      record {
        rise = (of_more (record { is = l }) (λ z i. record { is = less_trans (key_of z) (key_of c) (key_of k) (up.0 z i).is l }), up);
        only = λ z i. Memᴰ.cases_cons i;
        here = (k, Memᴰ.head refl, refl);
        others = λ z i. Memᴰ.tail i;
      },
    )
    go (inr (inl e)) p = (c ∷ cs, record { rise = up; only = λ z i. inr i; here = (c, Memᴰ.head refl, e); others = λ z i. i })
    go (inr (inr l)) (ds, p) = (
      c ∷ ds,
      record {
        rise = (λ z i. ⊎_elim (λ (e : z ≡ k). record { is = rw e l }) (λ j. up.0 z j) (p.only z i), p.rise);
        only = of_more (inr (Memᴰ.head refl)) (λ z i. ⊎_elim inl (λ j. inr (Memᴰ.tail j)) (p.only z i));
        here = (p.here.0, Memᴰ.tail p.here.1, p.here.2);
        others = of_more (Memᴰ.head refl) (λ z i. Memᴰ.tail (p.others z i));
      },
    )

-- the lines cs are those that the clean sheet has for the moves ms
record Lines (r : Sheet) (ms cs : List Move) : Type 0 where
  rise : Rising MoveBefore cs
  only : (k : Move) → Memᴰ k cs → Kept r k.from k.action k.to × GuardFor r k.from k.action k.to k.guard
  every : (m : Move) → Memᴰ m ms → (p : ℕ) → MadeIn r m p → (k : Move) × Memᴰ k cs × (key_of k ≡ key_of m)

-- the lines ds are the stop lines that it has for the states below n
record Stops (r : Sheet) (n : ℕ) (ds : List Stop) : Type 0 where
  rise : Rising StopBefore ds
  low : (d : Stop) → Memᴰ d ds → d.state < n
  only : (d : Stop) → Memᴰ d ds → Leaves r d.state × ((p : ℕ) × Stays r d.state p) × Writes (count r) (Stays r d.state) d.guard
  every : (q : ℕ) → q < n → Leaves r q → (p : ℕ) → Stays r q p → (d : Stop) × Memᴰ d ds × (d.state ≡ q)

-- ---- the clean sheet

module _ {r : Sheet} (ok : Accepted r) where
  guard_for : {m : Move} → Memᴰ m r.moves → (g : Guard) × GuardFor r m.from m.action m.to g
  guard_for {m} i = go (dec_product ok (dec_missed ok m) (λ p h. h.valid))
    where
      go : Dec ((p : ℕ) × MissedIn r m p) → (g : Guard) × GuardFor r m.from m.action m.to g
      go (yes (p, h)) =
          let x = (missed_goes ok i).there p h in
          let (g, writes) = guard_of_lem (count r) (λ q. Dec.of_iff ((made_goes ok i).there q, (made_goes ok i).back q) (dec_made ok m q)) in
          (g, inr (record { product = p; valid = x.valid; reached = x.reached; unmade = x.unmade; guard = writes }))
      go (no o) = (always, inl (record { every = λ p v w. makes_goes ok i (made_by_all ok (λ q h. o (q, h)) p v w); guard = refl }))

  lines : (ms : List Move) → ((m : Move) → Memᴰ m ms → Memᴰ m r.moves) → (cs : List Move) × Lines r ms cs
  lines [] sub = ([], record { rise = tt; only = λ k i. absurd (Memᴰ.not-nil i); every = λ m i. absurd (Memᴰ.not-nil i) })
  lines (m ∷ ms) sub = go (dec_product ok (dec_made ok m) (λ p i. i.valid)) (lines ms (λ k i. sub k (Memᴰ.tail i)))
    where
      go : Dec ((p : ℕ) × MadeIn r m p) → (cs : List Move) × Lines r ms cs → (cs : List Move) × Lines r (m ∷ ms) cs
      go (no o) (cs, l) = (cs, record { rise = l.rise; only = l.only; every = of_more (λ p h. absurd (o (p, h))) l.every })
      go (yes (p, h)) (cs, l) =
          let i = sub m (Memᴰ.head refl) in
          let (g, good) = guard_for i in
          let line : Move = record { line = 0; from = m.from; action = m.action; place = 0; to = m.to; guard = g } in
          let own : Kept r m.from m.action m.to = record { product = p; made = (made_goes ok i).there p h } in
          let (ds, x) = put line cs l.rise in (
            ds,
            record {
              rise = x.rise;
              only = λ k j. ⊎_elim (λ (e : k ≡ line). rw e (own, good)) (λ n. l.only k n) (x.only k j);
              every = of_more (λ q w. x.here) (λ k j q w. let (z, n, e) = l.every k j q w in (z, x.others z n, e));
            },
          )

  stops : (n : ℕ) → (ds : List Stop) × Stops r n ds
  stops zero = (
    [],
    record {
      rise = tt;
      low = λ d i. absurd (Memᴰ.not-nil i);
      only = λ d i. absurd (Memᴰ.not-nil i);
      every = λ q l. absurd (omega arith);
    },
  )
  stops (suc n) = go (dec_leaves ok n) (dec_product ok (dec_stays ok n) (λ p s. s.valid)) (stops n)
    where
      -- no line for the state n
      pass : (ds : List Stop) → Stops r n ds → (Leaves r n → (p : ℕ) → Stays r n p → ⊥) → (ds : List Stop) × Stops r (suc n) ds
      pass ds b f =
          (ds, record { rise = b.rise; low = λ d i. omega (arith, b.low d i); only = b.only; every = below_more b.every (λ h p w. absurd (f h p w)) })

      go : Dec (Leaves r n) → Dec ((p : ℕ) × Stays r n p) → (ds : List Stop) × Stops r n ds → (ds : List Stop) × Stops r (suc n) ds
      go (no o) s (ds, b) = pass ds b (λ h p w. o h)
      go (yes h) (no o) (ds, b) = pass ds b (λ k p w. o (p, w))
      go (yes h) (yes s) (ds, b) =
          let (g, writes) = guard_of_lem (count r) (dec_stays ok n) in (
            record { line = 0; state = n; guard = g } ∷ ds,
            record {
              rise = (b.low, b.rise);
              low = of_more (omega arith) (λ d i. omega (arith, b.low d i));
              only = of_more (h, s, writes) b.only;
              every =
                  below_more (λ q l k p w. let (d, i, e) = b.every q l k p w in (d, Memᴰ.tail i, e)) (λ k p w. (_, Memᴰ.head refl, refl));
            },
          )

  pub clean_of : (x : List ℕ) × IsClean r x
  clean_of =
      let (g, valid) = guard_of_lem (count r) (dec_valid r) in
      let (ms, a) = lines r.moves (λ m i. i) in
      let (ds, b) = stops 64 in
      let c : Sheet = record { features = r.features; valid = g; start = r.start; moves = ms; stops = ds } in (
        text_of c,
        record {
          form = c;
          clean = record {
            features = refl;
            valid = valid;
            start = refl;
            moves_rise = a.rise;
            moves_only = a.only;
            moves_every = λ f t q h.
                let g = h.made.goes in
                let (k, i, e) = a.every g.move g.there h.product (record { valid = h.made.valid; makes = g.makes }) in
                (k, i, cc (e, g.from), cc (e, g.action), cc (e, g.to));
            stops_rise = b.rise;
            stops_only = b.only;
            stops_every = λ q h p w. b.every q (reached_state ok w.reached) h p w;
          };
          is = refl;
        },
      )

pub clean_exists : CleanExists
clean_exists s r e = clean_of (accepted s e)
