-- What `put_answer` leaves after a call is what a program prints, and is determined. Assumes nothing.
use Rattle.refusals.specs.declared.Refusal.{Refusal}
use Rattle.std.proofs.Common.{Result}
use mathlib.Core.List.{List}
use mathlib.Core.Path.{◌≡◌, refl, sym, ap, ◌∙◌}
use Prim.Native.Nat.{ℕ, ◌≤◌}
use lib.ListN.{length, take}
use Rattle.text.proofs.Determined.{wrote_determined}
use Rattle.calls.specs.Shown.{Put, text, line, printed_of, Printed}

put_printed : {a : Result ℕ Refusal} {x x' : List ℕ} {n : ℕ} → Put x x' n a → 54 ≤ length x → take n x' ≡ printed_of a x
put_printed {n = n} (text e) l = ap (take n) e
put_printed (line w h) l = h l

pub printed : {P : List ℕ → List ℕ → Result ℕ Refusal → Type 0} {room x x' : List ℕ} {a : Result ℕ Refusal} {n : ℕ} → P room x a → Put x x' n a → 54 ≤ length x → Printed P room (take n x')
printed {x = x} {a = a} call put l = record { answer = a; left = x; call = call; is = put_printed put l }

-- the answer and the room before determine the room and the number of bytes
pub put_determined : {room x y : List ℕ} {m n : ℕ} {a : Result ℕ Refusal} → Put room x m a → Put room y n a → (x ≡ y) × (m ≡ n)
put_determined (text e) (text f) = (e ∙ sym f, refl)
put_determined (line w h) (line v k) = wrote_determined w v
