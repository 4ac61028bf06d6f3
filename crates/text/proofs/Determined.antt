-- The promise of every writer leaves no choice: room, place and text determine the room afterwards and the next place. Assumes nothing.
use mathlib.Core.Path.{◌≡◌, sym, ◌∙◌}
use mathlib.Core.List.{List}
use Prim.Native.Nat.{ℕ}
use Rattle.text.specs.Text.{Wrote}

-- any two answers that meet the promise for one room, place and text are equal
pub wrote_determined : {l vs m n : List ℕ} {at i j : ℕ} → Wrote l at vs m i → Wrote l at vs n j → (m ≡ n) × (i ≡ j)
wrote_determined a b = (a.became ∙ sym b.became, a.moved ∙ sym b.moved)
