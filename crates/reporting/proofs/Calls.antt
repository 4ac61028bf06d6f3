-- The report from its four parts; and for the callers of `put_report`, that the tables have a row for every move. Assumes nothing.
use mathlib.Core.Path.{◌≡◌, refl, ap, ◌∙◌}
use mathlib.Core.List.{List, [], ◌++◌}
use Prim.Native.Nat.{ℕ, ◌<◌, min}
use lib.ListN.{length, get_or}
use Rattle.text.specs.Text.{Wrote}
use Rattle.text.proofs.Laws.{wrote_then}
use Rattle.products.specs.Sets.{has, In}
use Rattle.sheet.specs.declared.Counts.{Counts}
use Rattle.sheet.specs.Sheet.{Sheet}
use Rattle.family.specs.Ways.{Depth}
use Rattle.verdicts.specs.Judging.{guards_at}
use Rattle.reporting.specs.Report.{depth_row, MoveRows, StateRows, StopRows, IsReport}
use Rattle.reporting.specs.Laying.{Ready}
use Rattle.reporting.proofs.Loops.{guarded_moves}

-- the rows of the moves, of the states and of the stops and the depth's row, laid one after another, are the report
pub whole_report : {R : ℕ → ℕ → Type 0} {r : Sheet} {depth i j k n : ℕ} {l a b d l' : List ℕ}
    → (vs : List ℕ) × MoveRows R r r.moves vs × Wrote l 0 vs a i
    → (vs : List ℕ) × StateRows R r 64 vs × Wrote a i vs b j
    → (vs : List ℕ) × StopRows R r r.stops vs × Wrote b j vs d k
    → Depth r depth → Wrote d k (depth_row depth) l' n
    → (vs : List ℕ) × IsReport R r vs × Wrote l 0 vs l' n
whole_report {depth = depth} (x, xs, u) (y, ys, v) (z, zs, w) deep t = (
  x ++ (y ++ (z ++ depth_row depth)),
  record { moves = x; states = y; stops = z; depth = depth; move_rows = xs; state_rows = ys; stop_rows = zs; is_depth = deep; is = refl },
  wrote_then u (wrote_then v (wrote_then w t)),
)

-- for callers: what a table tells of each state by the rows that are there, it tells by all moves; `at q` is what it has for the state q
pub all_outward : {c : Counts} {m g t h sets : List (List ℕ)} {r : Sheet} (at : ℕ → List ℕ) → Ready c m g t h sets r
    → ((q : ℕ) → q < 64 → (p : ℕ) → In (get_or sets q []) p → has (at q) p ≡ guards_at m g q p (min (min (min c.moves 256) (length m)) (length g)))
    → (q : ℕ) → q < 64 → (p : ℕ) → In (get_or sets q []) p → has (at q) p ≡ guards_at m g q p (min c.moves 256)
all_outward {m = m} {g} at w f q lq p i = f q lq p i ∙ ap (guards_at m g q p) (guarded_moves w)
