-- Reading a line: the bytes that came so far, of which none ends a line, are laid from the buffer's begin on, and they are what left the reader, where
-- its bytes are known. Assumes nothing.
use mathlib.Core.Path.{◌≡◌}
use mathlib.Core.List.{List, [], ◌∷◌, ◌++◌}
use Prim.Native.Nat.{ℕ}
use Rattle.std.specs.Prelude.{Option}
use Rattle.std.specs.Io.KnownBytes.{Consumes}
use Rattle.std.proofs.KnownBytes.{Consumes-trans}
use Rattle.text.specs.Text.{Wrote}
use Rattle.text.proofs.Laws.{wrote_then}
use Rattle.console.specs.Reading.{Unended}

-- the reader had the bytes `known` and has `left`; the buffer was l and is l', and n is the place behind the line so far
pub record Begun (known left : Option (List ℕ)) (l l' : List ℕ) (n : ℕ) : Type 0 where
  pub text : List ℕ
  pub unended : Unended text
  pub laid : Wrote l 0 text l' n
  pub spent : Consumes known left text

unended_more : (bs : List ℕ) {b : ℕ} → Unended bs → (b ≡ 10 → ⊥) → Unended (bs ++ b ∷ [])
unended_more [] u h = (h, tt)
unended_more (a ∷ bs) u h = (u.0, unended_more bs u.1 h)

module _ {known left : Option (List ℕ)} {l l' : List ℕ} {n : ℕ} (h : Begun known left l l' n) where
  -- one byte more
  pub begun_more : (left' : Option (List ℕ)) {b : ℕ} {l'' : List ℕ} {m : ℕ} → (b ≡ 10 → ⊥) → Consumes left left' (b ∷ []) → Wrote l' n (b ∷ []) l'' m → Begun known left' l l'' m
  begun_more left' {b} k c w =
      record { text = h.text ++ b ∷ []; unended = unended_more h.text h.unended k; laid = wrote_then h.laid w; spent = Consumes-trans _ _ _ _ _ h.spent c }
