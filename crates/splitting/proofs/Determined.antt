-- The promise of `put_guard` leaves no choice: it determines the next place and the room afterwards, and says of the set only which products of the
-- first features it has. Assumes nothing.
use mathlib.Core.Path.{◌≡◌, ap}
use mathlib.Core.List.{List, []}
use Prim.Native.Nat.{ℕ, ◌^◌, ◌<◌, min}
use lib.Dec.{eqb}
use Rattle.products.specs.Sets.{has}
use Rattle.text.specs.Text.{Wrote}
use Rattle.text.proofs.Determined.{wrote_determined}
use Rattle.guards.specs.Guard.{print}
use Rattle.guards.specs.Reading.{names_of}
use Rattle.splitting.specs.Splitting.{in_set, guard_of}
use Rattle.splitting.proofs.Laws.{guard_ext}

-- the text that `put_guard` promises
abbrev set_text : List ℕ → List (List ℕ) → ℕ → List ℕ → List ℕ
set_text text names count set = print (guard_of 0 (min count 10) (in_set set)) (names_of text names (min count 10)) []

-- any two answers that meet the promise for one room, place, text, names, count and set are equal
pub put_guard_determined : {room m n : List ℕ} {at i j : ℕ} (text : List ℕ) (names : List (List ℕ)) (count : ℕ) (set : List ℕ)
    → Wrote room at (set_text text names count set) m i → Wrote room at (set_text text names count set) n j → (m ≡ n) × (i ≡ j)
put_guard_determined text names count set a b = wrote_determined a b

-- sets with the same products of the first features are written alike
pub set_text_same : (text : List ℕ) (names : List (List ℕ)) (count : ℕ) (set set' : List ℕ) → ((p : ℕ) → p < 2 ^ min count 10 → has set p ≡ has set' p)
    → set_text text names count set ≡ set_text text names count set'
set_text_same text names count set set' h =
    ap (λ g. print g (names_of text names (min count 10)) [])
    (guard_ext (min count 10) 0 (in_set set) (in_set set') (λ q l. ap (λ (x : ℕ). eqb x 1) (h q l)))
