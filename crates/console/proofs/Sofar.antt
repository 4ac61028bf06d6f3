-- Reading an input: the bytes that came so far are one text, laid from the buffer's begin on; so behind them, or behind the buffer's end where they
-- are more than fit, everything is as it was. Assumes nothing.
use mathlib.Core.Path.{◌≡◌, sym, ◌∙◌}
use mathlib.Core.List.{List, ◌++◌}
use mathlib.Core.Logic.{⊎_elim}
use Prim.Native.Nat.{ℕ, ◌+◌, ◌-◌, ◌≤◌, min}
use native.Mathlib.Omega.{arith}
use native.Mathlib.Nat.{eq-zero-or-pos}
use lib.ListN.{length, drop, drop_of_length-le}
use Rattle.text.specs.Text.{Wrote}
use Rattle.text.proofs.Laws.{wrote_then, wrote_long, wrote_behind}
use Rattle.std.specs.Prelude.{Option, Some, Ok}
use Rattle.std.specs.Io.KnownBytes.{Consumes}
use Rattle.std.proofs.KnownBytes.{Consumes-trans}
use Rattle.console.specs.Reading.{Held, Came}

-- the reader had the bytes `known` and has `left`, where they are known; the buffer was l and is l', and the next place is at: some text left the
-- reader and was laid from the begin on
pub record Sofar (known left : Option (List ℕ)) (l l' : List ℕ) (at : ℕ) : Type 0 where
  pub bytes : List ℕ
  pub laid : Wrote l 0 bytes l' at
  pub spent : Consumes known left bytes

module _ {known left : Option (List ℕ)} {l l' : List ℕ} {at : ℕ} (s : Sofar known left l l' at) where
  -- one read more
  pub sofar_more : (left' : Option (List ℕ)) (l'' : List ℕ) {next : ℕ} → Came left left' l' at l'' (Ok (Some next)) → Sofar known left' l l'' next
  sofar_more left' l'' came =
      record { bytes = s.bytes ++ came.0; laid = wrote_then s.laid came.1; spent = Consumes-trans _ _ _ _ _ s.spent came.2 }

  -- behind the bytes, as far as the buffer goes, stands what stood there
  behind_kept : {n : ℕ} → n ≡ min at (length l') → drop n l' ≡ drop n l
  behind_kept {n} m =
      let w = s.laid in
      let moved = w.moved in
      let short = w.short in
      let long = wrote_long w in
      ⊎_elim
      (λ z. let e : n ≡ 0 + length s.bytes = omega arith in rw e (wrote_behind w (omega arith)))
      (λ p.
      let x : length l' ≤ n = omega arith in
      let y : length l ≤ n = omega arith in
      drop_of_length-le l' x ∙ sym (drop_of_length-le l y))
      (eq-zero-or-pos (length s.bytes - length l))

  -- at the end of the input
  pub sofar_held : {l'' : List ℕ} {n : ℕ} → l'' ≡ l' → n ≡ min at (length l'') → Held l l'' (Ok n)
  sofar_held same m = rw same (let m' = rw same at m in (omega arith, wrote_long s.laid, behind_kept m'))
