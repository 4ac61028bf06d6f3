-- What one read gave, where the reader's bytes are known: what is laid of them is what left the reader, and at the end it had none. Assumes nothing.
use mathlib.Core.Path.{◌≡◌, refl, ◌∙◌}
use mathlib.Core.List.{List, [], ◌∷◌}
use Prim.Native.Nat.{ℕ, zero, suc, min, ◌<◌}
use native.Mathlib.Omega.{arith}
use lib.ListN.{length, take, get_or}
use Rattle.std.specs.Prelude.{Option, None, Some, Result, Ok, Err, MatchOption, IsSomeAnd}
use Rattle.std.specs.Io.{ReadsAtMost}
use Rattle.std.specs.Io.KnownBytes.{Consumes, IsAtEnd, ReadConsumes}
use Rattle.console.specs.Reading.{CameNext, piece_of}

at_end : (left left' : Option (List ℕ)) → Consumes left left' [] → IsAtEnd left' → IsAtEnd left
at_end None left' h e = tt
at_end (Some xs) None h e = absurd h
at_end (Some xs) (Some ys) h e = h ∙ e

module _ {E : Type 0} (left left' : Option (List ℕ)) (some : List ℕ) where
  pub some_spent : (r : Result ℕ E) {n : ℕ} → Ok (Some n) ≡ piece_of r (length some) → ReadsAtMost r some → ReadConsumes left left' r some → Consumes left left' (take n some)
  unfolding piece_of
  some_spent (Err e) {n} is most h = cc
  some_spent (Ok zero) {n} is most h = cc
  some_spent (Ok (suc k)) {n} is most h =
      let m : n ≡ min (suc k) (length some) = cc in
      let s : n ≡ suc k = omega (arith, m, most.0) in
      rw s h.0

  pub none_left : (r : Result ℕ E) → Ok None ≡ piece_of r (length some) → 0 < length some → ReadConsumes left left' r some → IsAtEnd left
  unfolding piece_of
  none_left (Err e) is room h = cc
  none_left (Ok zero) is room h = at_end left left' h.0 (h.1 refl room)
  none_left (Ok (suc k)) is room h = cc

-- a read into one place
one_spent : {E : Type 0} (left left' : Option (List ℕ)) (some : List ℕ) (r : Result ℕ E) {n : ℕ} → length some ≡ 1 → Ok (Some n) ≡ piece_of r (length some) → ReadsAtMost r some
    → ReadConsumes left left' r some → Consumes left left' (get_or some 0 0 ∷ [])
unfolding piece_of
one_spent left left' some (Err e) {n} one is most h = cc
one_spent left left' some (Ok zero) {n} one is most h = cc
one_spent left left' [] (Ok (suc k)) one is most h = absurd (omega (arith, one))
one_spent left left' (b ∷ []) (Ok (suc zero)) one is most h = h.0
one_spent left left' (b ∷ []) (Ok (suc (suc k))) one is most h = absurd (omega (arith, most.0))
one_spent left left' (b ∷ c ∷ bs) (Ok (suc k)) one is most h = absurd (omega (arith, one))

-- the byte that stands there, where one came
pub byte_came : {E : Type 0} (left left' : Option (List ℕ)) (some : List ℕ) (r : Result ℕ E) (piece byte : Option ℕ) {P : ℕ → ℕ → Type 0} → length some ≡ 1
    → Ok piece ≡ piece_of r (length some) → ReadsAtMost r some → ReadConsumes left left' r some → MatchOption piece (byte ≡ None) (λ n. IsSomeAnd byte (P n))
    → ((n b : ℕ) → P n b → b ≡ get_or some 0 0) → CameNext left left' (Ok byte)
byte_came left left' some r None byte one is most h given what = rw given (none_left left left' some r is (omega (arith, one)) h)
byte_came left left' some r (Some n) None one is most h given what = absurd given
byte_came left left' some r (Some n) (Some b) one is most h given what = rw (what n b given) (one_spent left left' some r one is most h)
