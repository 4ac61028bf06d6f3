-- The line that tells of a call: laid state by state, and how long it can be. Assumes nothing.
use Rattle.std.proofs.Common.{Ok, Err}
use mathlib.Core.Bool.{Bool, true, false, cond, not}
use mathlib.Core.List.{List, [], ◌∷◌, ◌++◌}
use mathlib.Core.Path.{◌≡◌}
use Prim.Native.Nat.{ℕ, zero, suc, ◌+◌, ◌*◌, ◌^◌, ◌≤◌, ◌<◌}
use native.Mathlib.Numerals.{add-one}
use native.Mathlib.Omega.{arith}
use borrow.Author.Tests.{not-true, not-false}
use lib.Dec.{eqb}
use lib.ListN.{length, take, length-append}
use Rattle.products.specs.Sets.{bit}
use Rattle.text.specs.Text.{Wrote, decimal, texts}
use Rattle.text.proofs.Determined.{wrote_determined}
use Rattle.text.proofs.Laws.{wrote_then, wrote_text, wrote_end, decimal_places}
use Rattle.refusals.specs.declared.Refusal.{Refusal}
use Rattle.refusals.specs.Refusal.{refusal_text}
use Rattle.refusals.proofs.Short.{refusal_short}
use Rattle.running.specs.declared.Called.{Called}
use Rattle.running.specs.Shown.{state_text, place_text, Told}

-- ---- a state

module _ (place q : ℕ) {x : Bool} (told : x ≡ eqb (bit place q) 1) where
  pub state_absent : not x ≡ true → {l : List ℕ} {at : ℕ} → Wrote l at [] l at → Wrote l at (state_text place q) l at
  state_absent e w = rw (← told, not-true x e) w

  pub state_laid : not x ≡ false → {l l' : List ℕ} {at at' : ℕ} → Wrote l at ((9 ∷ []) ++ decimal q) l' at' → Wrote l at (state_text place q) l' at'
  state_laid e w = rw (← told, not-false x e) w

-- ---- the states before q, and the line

pub states_more : (place q : ℕ) {l l' l'' : List ℕ} {at at' at'' : ℕ} → Wrote l at (texts (state_text place) q) l' at' → Wrote l' at' (state_text place q) l'' at''
    → Wrote l at (texts (state_text place) (q + 1)) l'' at''
unfolding texts
states_more place q h w = rw (add-one q) (wrote_then h w)

pub line_laid : (place q : ℕ) {l l₁ l₂ l₃ : List ℕ} {at at₁ at₂ at₃ : ℕ} → Wrote l at (112 ∷ 108 ∷ 97 ∷ 99 ∷ 101 ∷ []) l₁ at₁
    → Wrote l₁ at₁ (texts (state_text place) q) l₂ at₂ → q ≡ 64 → Wrote l₂ at₂ (10 ∷ []) l₃ at₃ → Wrote l at (place_text place) l₃ at₃
unfolding place_text
line_laid place q a b e c = wrote_then a (wrote_then (rw e at b) c)

-- ---- how long a line is

-- a text of so many bytes at most is laid whole
whole_in : {l vs l' : List ℕ} {n : ℕ} → length vs ≤ 198 → Wrote l 0 vs l' n → 198 ≤ length l → take n l' ≡ vs
whole_in s w h = rw (wrote_end w (omega arith)) (wrote_text w (omega arith))

state_short : (w q : ℕ) → q < 64 → length (state_text w q) ≤ 3
state_short w q l = at (eqb (bit w q) 1)
  where
    at : (b : Bool) → length (cond b ((9 ∷ []) ++ decimal q) []) ≤ 3
    at true = omega (arith, decimal_places q 1 (omega arith))
    at false = omega arith

states_short : (w n : ℕ) → n ≤ 64 → length (texts (state_text w) n) ≤ 3 * n
unfolding texts
states_short w zero l = omega arith
states_short w (suc n) l = simp length-append (omega (arith, states_short w n (omega arith), state_short w n (omega arith)))

place_short : (w : ℕ) → length (place_text w) ≤ 198
unfolding place_text
place_short w = simp length-append (omega (arith, states_short w 64 (omega arith)))

pub place_told : {l l' : List ℕ} {n : ℕ} (x : Called) → x.answer ≡ (Ok tt) → Wrote l 0 (place_text x.after.place) l' n → Told l l' n x
place_told x e w = record { laid = rw e w; whole = rw e (whole_in (place_short x.after.place) w) }

pub refusal_told : {l l' : List ℕ} {n : ℕ} (x : Called) (q : Refusal) → x.answer ≡ Err q → Wrote l 0 (refusal_text q) l' n → q.number < 2 ^ 8 → q.line < 2 ^ 64 → q.place < 2 ^ 64 → Told l l' n x
refusal_told x q e w h g f = record { laid = rw e w; whole = rw e (whole_in (omega (arith, refusal_short q h g f)) w) }

-- what `put_called` promises determines room and length
pub told_determined : {room x y : List ℕ} {m n : ℕ} {c : Called} → Told room x m c → Told room y n c → (x ≡ y) × (m ≡ n)
told_determined h k = wrote_determined h.laid k.laid
