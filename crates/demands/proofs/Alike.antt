-- The order changes no verdict: two verdicts on one move, state or stop line, each with the products of its own order, have the same
-- word; and missed names a product in one order if it does in the other. Assumes nothing.
use Rattle.std.proofs.Common.{Option, Some, None}
use mathlib.Core.Path.{◌≡◌, refl, subst}
use Prim.Native.Nat.{ℕ}
use Rattle.products.specs.Sets.{Finds}
use Rattle.products.specs.Orders.{Before}
use Rattle.products.proofs.Laws.{found_none}
use Rattle.sheet.specs.Sheet.{Move, Stop, Sheet}
use Rattle.verdicts.specs.declared.Verdict.{Verdict}
use Rattle.verdicts.specs.declared.Verdict.TheVariants.{Dead, False, Must, May}
use Rattle.verdicts.specs.declared.StateVerdict.{StateVerdict}
use Rattle.verdicts.specs.declared.StateVerdict.TheVariants.{Unreached, End, Hidden, Live}
use Rattle.verdicts.specs.declared.StopVerdict.{StopVerdict}
use Rattle.verdicts.specs.declared.StopVerdict.TheVariants.{Untrue, Idle, True}
use Rattle.verdicts.specs.Verdicts.{MissedIn, JudgedAs, StateAs, Stuck, ReachedIn, StopAs}
use Rattle.verdicts.proofs.Meaning.{every_not_some, false_misses_none, must_misses_none}
use Rattle.reporting.specs.Report.{word, missed_of, state_word, stop_word}
use Rattle.demands.specs.Demands.{OrderChangesNoVerdict}

-- a product is not none
named : {p : ℕ} → Some p ≡ None → ⊥
named e = subst some e tt
  where
    some : Option ℕ → Type 0
    some (Some p) = Unit
    some None = ⊥

module _ (R S : ℕ → ℕ → Type 0) (r : Sheet) where
  none_too : (P : ℕ → Type 0) (f : Option ℕ) → ((p : ℕ) → P p → ⊥) → Finds S P f → f ≡ None
  none_too P (Some p) none l = absurd (none p l.is)
  none_too P None none l = refl

  moves_alike : (m : Move) (v w : Verdict) → JudgedAs R r m v → JudgedAs S r m w → (word v ≡ word w) × (missed_of v ≡ None → missed_of w ≡ None)
  unfolding word missed_of
  moves_alike m (Dead f) (Dead g) h k = (refl, λ e. none_too (MissedIn r m) g (found_none R (MissedIn r m) h.1 e) k.1)
  moves_alike m (Dead f) (False p) h k = absurd (h.0 p k.1.is)
  moves_alike m (Dead f) (Must p) h k = absurd (h.0 p k.1.is)
  moves_alike m (Dead f) (May p q) h k = absurd (h.0 p k.0.is)
  moves_alike m (False p) (Dead g) h k = absurd (k.0 p h.1.is)
  moves_alike m (False p) (False q) h k = (refl, λ e. refl)
  moves_alike m (False p) (Must q) h k = absurd (every_not_some r m.guard k.0 h.0.fails)
  moves_alike m (False p) (May q s) h k = absurd (false_misses_none h.0 s k.1.is)
  moves_alike m (Must p) (Dead g) h k = absurd (k.0 p h.1.is)
  moves_alike m (Must p) (False q) h k = absurd (every_not_some r m.guard h.0 k.0.fails)
  moves_alike m (Must p) (Must q) h k = (refl, λ e. refl)
  moves_alike m (Must p) (May q s) h k = absurd (must_misses_none h.0 s k.1.is)
  moves_alike m (May p s) (Dead g) h k = absurd (k.0 p h.0.is)
  moves_alike m (May p s) (False q) h k = absurd (false_misses_none k.0 s h.1.is)
  moves_alike m (May p s) (Must q) h k = absurd (must_misses_none k.0 s h.1.is)
  moves_alike m (May p s) (May q t) h k = (refl, λ e. absurd (named e))

  there : (q p : ℕ) → Stuck r q p → ReachedIn r q p
  there q p i = record { valid = i.valid; reached = i.reached }

  states_alike : (q : ℕ) (v w : StateVerdict) → StateAs R r q v → StateAs S r q w → state_word v ≡ state_word w
  unfolding state_word
  states_alike q Unreached Unreached h k = refl
  states_alike q Unreached End h k = absurd (h k.0.0 k.0.1)
  states_alike q Unreached (Hidden p) h k = absurd (h p (there q p k.1.is))
  states_alike q Unreached Live h k = absurd (h k.0.0 k.0.1)
  states_alike q End Unreached h k = absurd (k h.0.0 h.0.1)
  states_alike q End End h k = refl
  states_alike q End (Hidden p) h k = absurd (h.1 k.0.0 k.0.1)
  states_alike q End Live h k = absurd (h.1 k.1.0 k.1.1)
  states_alike q (Hidden p) Unreached h k = absurd (k p (there q p h.1.is))
  states_alike q (Hidden p) End h k = absurd (k.1 h.0.0 h.0.1)
  states_alike q (Hidden p) (Hidden s) h k = refl
  states_alike q (Hidden p) Live h k = absurd (k.2 p h.1.is)
  states_alike q Live Unreached h k = absurd (k h.0.0 h.0.1)
  states_alike q Live End h k = absurd (k.1 h.1.0 h.1.1)
  states_alike q Live (Hidden p) h k = absurd (h.2 p k.1.is)
  states_alike q Live Live h k = refl

  stops_alike : (d : Stop) (v w : StopVerdict) → StopAs R r d v → StopAs S r d w → stop_word v ≡ stop_word w
  unfolding stop_word
  stops_alike d (Untrue p) (Untrue q) h k = refl
  stops_alike d (Untrue p) Idle h k = absurd (k p h.is.declares)
  stops_alike d (Untrue p) True h k = absurd (k.1 p h.is)
  stops_alike d Idle (Untrue p) h k = absurd (h p k.is.declares)
  stops_alike d Idle Idle h k = refl
  stops_alike d Idle True h k = absurd (h k.0.0 k.0.1)
  stops_alike d True (Untrue p) h k = absurd (h.1 p k.is)
  stops_alike d True Idle h k = absurd (k h.0.0 h.0.1)
  stops_alike d True True h k = refl

pub order_changes_no_verdict : OrderChangesNoVerdict
order_changes_no_verdict o n r = (moves_alike (Before o) (Before n) r, states_alike (Before o) (Before n) r, stops_alike (Before o) (Before n) r)
