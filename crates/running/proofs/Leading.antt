-- "As long as the same sheet is lent, the place is exactly the ends of the ways that carry the names accepted so far." By the calls, one after
-- another. Assumes nothing.
use Rattle.std.proofs.Common.{Ok, Err}
use mathlib.Core.Bool.{true}
use mathlib.Core.List.{List, [], ◌∷◌, Memᴰ}
use mathlib.Core.Logic.{inl, inr}
use mathlib.Core.Path.{◌≡◌, refl, sym, ◌∙◌}
use Prim.Native.Nat.{ℕ}
use native.Mathlib.Omega.{arith}
use Rattle.products.proofs.Bits.{zero_bit}
use Rattle.refusals.specs.declared.Reason.TheVariants as because
use Rattle.refusals.specs.declared.Refusal.{Refusal}
use Rattle.refusals.specs.Refusal.{refusal}
use Rattle.guards.specs.Guard.{holds}
use Rattle.sheet.specs.Sheet.{Move, Sheet, is_valid}
use Rattle.sheet.specs.Reading.{kept, read_sheet}
use Rattle.sheet.proofs.Accepted.{kept_refused}
use Rattle.running.specs.declared.RunningBox.{RunningBox}
use Rattle.running.specs.Ways.{Stands, Ends, Carries, none, more}
use Rattle.running.specs.Promise.{nowhere, Went, Acts}
use Rattle.running.specs.Runs.{Run, set_up, went, stayed}
use Rattle.running.proofs.Determined.{same_sheet, not_both}

-- no move: the start alone
start_only : {r : Sheet} {p q : ℕ} → Carries r p [] q → q ≡ r.start
start_only none = refl

start_way : {r : Sheet} {p q : ℕ} → q ≡ r.start → Carries r p [] q
start_way e = rw e none

-- a way that carries a name behind others ends with a move of that name
pub record Last (r : Sheet) (p : ℕ) (name : List ℕ) (names : List (List ℕ)) (q : ℕ) : Type 0 where
  pub move : Move
  pub listed : Memᴰ move r.moves
  pub named : move.action ≡ name
  pub before : Carries r p names move.from
  pub makes : holds move.guard p ≡ true
  pub to : move.to ≡ q

pub last_move : {r : Sheet} {p : ℕ} {name : List ℕ} {names : List (List ℕ)} {q : ℕ} → Carries r p (name ∷ names) q → Last r p name names q
last_move {r} {p} {name} {names} c = go c refl
  where
    go : {q : ℕ} {l : List (List ℕ)} → Carries r p l q → l ≡ name ∷ names → Last r p name names q
    go none e = let z : ◌≡◌ {A = ℕ} 0 1 = cc in absurd (omega arith)
    go (more {names = l} {m} i w h) e =
        let n : m.action ≡ name = cc in
        let k : l ≡ names = cc in
        record { move = m; listed = i; named = n; before = rw k at w; makes = h; to = refl }

module _ {r : Sheet} {p : ℕ} {names : List (List ℕ)} {b : RunningBox} (is : b.product ≡ p) (at : Stands b (Carries r p names)) {name : List ℕ} where
  -- an end is the end of a way that carries one name more
  pub one_more : {q : ℕ} → Ends r b name q → Carries r p (name ∷ names) q
  one_more e = rw (← e.named, ← e.to) (more e.listed (at.only e.move.from e.from) (rw is at e.makes))

  -- and the other way round
  last_one : {q : ℕ} → Carries r p (name ∷ names) q → Ends r b name q
  last_one c =
      let l = last_move c in
      record { move = l.move; listed = l.listed; named = l.named; from = at.every l.move.from l.before; makes = rw is l.makes; to = l.to }

-- where a run has led
pub record Led (r : Sheet) (p : ℕ) (names : List (List ℕ)) (b : RunningBox) : Type 0 where
  pub valid : is_valid r p ≡ true
  pub product : b.product ≡ p
  pub place : Stands b (Carries r p names)

pub led : {s : List ℕ} {p : ℕ} {names : List (List ℕ)} {b : RunningBox} → Run s p names b → (r : Sheet) × (read_sheet s ≡ kept r) × Led r p names b
led (set_up (r, e, u)) =
    (r, e, record { valid = u.valid; product = u.product; place = record { only = λ q i. start_way (u.place.only q i); every = λ q w. u.place.every q (start_only w) } })
led {s} {p} (went {names} {b} {after = d} {name} run (t, f, w)) =
    let (r, e, x) = led run in
    let y : Went r b name d = rw (same_sheet s f e) at w in
    let place : Stands d (Carries r p (name ∷ names)) =
    record { only = λ q i. one_more x.product x.place (y.place.only q i); every = λ q c. y.place.every q (last_one x.product x.place c) } in
    (r, e, record { valid = x.valid; product = y.product ∙ x.product; place = place })
led (stayed run u) = rw u.0 (led run)

-- so a name is accepted exactly if a way carries it after those accepted so far
module _ (s : List ℕ) {r : Sheet} (e : read_sheet s ≡ kept r) {p : ℕ} {names : List (List ℕ)} {b : RunningBox} (x : Led r p names b) {name : List ℕ} {d : RunningBox} where
  pub done_way : Acts s b name (Ok tt) d → (q : ℕ) × Carries r p (name ∷ names) q
  done_way (t, f, w) = let y : Went r b name d = rw (same_sheet s f e) at w in (y.some.0, one_more x.product x.place y.some.1)

  pub refused_no_way : {q : Refusal} → Acts s b name (Err q) d → (q ≡ refusal because.NoMove 0 0) × ((to : ℕ) → Carries r p (name ∷ names) to → ⊥)
  refused_no_way (k, inl f) = absurd (kept_refused s e f)
  refused_no_way (k, inr (t, f, inl n)) = absurd (not_both r (sym x.product) x.valid (rw (same_sheet s f e) at n.invalid))
  refused_no_way (k, inr (t, f, inr n)) = (n.nineteen, λ to c. n.nothing to (rw (same_sheet s f e) (last_one x.product x.place c)))

-- from the empty place that a refused set-up gives no name leads anywhere
pub nowhere_led : (s : List ℕ) {name : List ℕ} {d : RunningBox} → Acts s nowhere name (Ok tt) d → ⊥
nowhere_led s (r, e, w) = omega (arith, zero_bit w.some.1.move.from, w.some.1.from.is)
