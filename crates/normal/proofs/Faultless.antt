-- A clean form has none of the faults that a report shows. It is a clean form of itself; in it a triple stands on one line, so what is kept is made
-- by that line, a guard that is not `1` is missed by a product, and each product that stays at a state has a stop line there. Assumes nothing.
use mathlib.Core.Bool.{false, false≢true}
use mathlib.Core.Path.{◌≡◌, refl, sym, ap, subst, ◌∙◌}
use mathlib.Core.List.{Memᴰ}
use mathlib.Core.Logic.{inl, inr}
use Prim.Native.Nat.{ℕ}
use Rattle.guards.specs.Guard.{Guard, always, holds}
use Rattle.sheet.specs.Sheet.{Move, Stop, Sheet}
use Rattle.verdicts.specs.Verdicts.{Makes, DeadMove, FalseOptional, LeadsOut, Stuck, UntrueIn}
use Rattle.normal.specs.Behaviour.{Goes}
use Rattle.normal.specs.Clean.{Kept, GuardFor, Stays, Leaves, key_of, Clean}
use Rattle.normal.specs.Faults.{Faultless}
use Rattle.normal.proofs.Once.{once, key_of_lem, before_other}
use Rattle.normal.proofs.Kept.{valid_small, clean_again}

-- a triple stands on one line of a clean form
pub one_move : {r c : Sheet} {m k : Move} → Clean r c → Memᴰ m c.moves → Memᴰ k c.moves
    → m.from ≡ k.from → m.action ≡ k.action → m.to ≡ k.to → m ≡ k
one_move {c = c} {m} {k} x i j f a t = once key_of before_other c.moves x.moves_rise i j (key_of_lem m k f a t)

-- so a triple that is made is made by its line
pub made_by_line : {r c : Sheet} {m : Move} {p : ℕ} → Clean r c → Memᴰ m c.moves → Goes c p m.from m.action m.to → Makes c p m
made_by_line {c = c} {m} {p} x i g = subst (λ (k : Move). Makes c p k) (one_move x g.there i g.from g.action g.to) g.makes

pub line_goes : {c : Sheet} {q p : ℕ} {m : Move} → LeadsOut c q m → Makes c p m → Goes c p q m.action m.to
line_goes {m = m} l x = record { move = m; there = l.there; from = l.source; action = refl; to = refl; makes = x }

-- ---- a sheet that is its own clean form

-- the guard `1` fails in no product
never_fails : {g : Guard} (p : ℕ) → g ≡ always → holds g p ≡ false → ⊥
unfolding holds
never_fails p e f = false≢true (sym f ∙ ap (λ (g : Guard). holds g p) e)

module _ {c : Sheet} (x : Clean c c) where
  not_dead : (m : Move) → Memᴰ m c.moves → DeadMove c m → ⊥
  not_dead m i d =
      let k = (x.moves_only m i).0 in
      d k.product (record { valid = k.made.valid; makes = made_by_line x i k.made.goes })

  not_false : (m : Move) → Memᴰ m c.moves → FalseOptional c m → ⊥
  not_false m i d = go (x.moves_only m i).1
    where
      go : GuardFor c m.from m.action m.to m.guard → ⊥
      go (inl z) = never_fails d.fails.0 z.guard d.fails.2
      go (inr z) = z.unmade (line_goes (record { there = i; source = refl }) (d.every z.product z.valid z.reached))

  line_leaves : {q : ℕ} {m : Move} → LeadsOut c q m → Leaves c q
  line_leaves {q} {m} l =
      record { action = m.action; to = m.to; kept = subst (λ (f : ℕ). Kept c f m.action m.to) l.source (x.moves_only m l.there).0 }

  stuck_stays : {q p : ℕ} → Stuck c q p → Stays c q p
  stuck_stays s =
      record { valid = s.valid; reached = s.reached; none = λ a t g. s.makes_none g.move (record { there = g.there; source = g.from }) g.makes }

  not_hidden : {q p : ℕ} {m : Move} → LeadsOut c q m → Stuck c q p → ⊥
  not_hidden {q} {p} l s =
      let d = x.stops_every q (line_leaves l) p (stuck_stays s) in
      let w : Stays c d.0.state p = subst (λ (f : ℕ). Stays c f p) (sym d.2) (stuck_stays s) in
      s.undeclared d.0 d.1 d.2 ((x.stops_only d.0 d.1).2.every p (valid_small s.valid) w)

  not_untrue : {p : ℕ} (d : Stop) → Memᴰ d c.stops → UntrueIn c d p → ⊥
  not_untrue {p} d i u =
      let w = (x.stops_only d i).2.only p (valid_small u.declares.valid) u.declares.held in
      w.none u.move.action u.move.to (line_goes u.out u.makes)

  own_faultless : Faultless c
  own_faultless = record { dead = not_dead; false_optional = not_false; hidden = λ q p m. not_hidden; untrue = λ d p. not_untrue d }

pub faultless : {r c : Sheet} → Clean r c → Faultless c
faultless k = own_faultless (clean_again k)
