-- What the functions inside promise each other. Nobody has to believe this page: the promise of `put_report` does not speak of it. Assumes
-- nothing: these are definitions.
use Rattle.std.specs.Prelude.{Bool, List, ◌≡◌, ℕ, ◌<◌, min}
use Rattle.products.specs.Sets.{bit, one_if}
use Rattle.sheet.specs.declared.Counts.{Counts}
use Rattle.desk.specs.declared.Desk.{Desk}
use Rattle.verdicts.specs.Judging.{row_at}
use Rattle.reporting.specs.Laying.{Outward}

-- bit q is 1 or 0 for each state q, by a test
abbrev pub Marked : ℕ → (ℕ → Bool) → Type 0
Marked marks f = (q : ℕ) → q < 64 → bit marks q ≡ one_if (f q)

-- what one pass over the rows told of each state: `out`, and the marks of those that a move line leaves and of those that a stop line is for
pub record Told (c : Counts) (m g t sets out : List (List ℕ)) (leaves stopped : ℕ) : Type 0 where
  pub outward : Outward c m g sets out
  pub left : Marked leaves (λ q. row_at m 1 q (min c.moves 256))
  pub declared : Marked stopped (λ q. row_at t 1 q (min c.stops 64))

abbrev pub ToldOn : Desk → (leaves stopped : ℕ) → Type 0
ToldOn d leaves stopped = Told d.sheet.counts d.sheet.moves.now d.sheet.move_guards.now d.sheet.stops.now d.sets.now d.out.now leaves stopped
