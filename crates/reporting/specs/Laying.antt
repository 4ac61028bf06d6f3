-- What the writer of a report works on: tables that stand for an accepted sheet, with the states' sets. Assumes nothing: these are definitions.
use Rattle.std.specs.Prelude.{List, [], ◌≡◌, ℕ, ◌<◌, min, get_or}
use Rattle.products.specs.Sets.{has, In}
use Rattle.sheet.specs.declared.Counts.{Counts}
use Rattle.desk.specs.declared.Desk.{Desk}
use Rattle.sheet.specs.Sheet.{Sheet}
use Rattle.sheet.specs.Tables.{tables, StandsFor}
use Rattle.sheet.specs.Accepted.{Accepted}
use Rattle.family.specs.Ways.{Reaches}
use Rattle.verdicts.specs.Judging.{guards_at}

-- the tables stand for the accepted sheet r, with some text, table of names and set of valid products; `sets` has for each state the valid products
-- that reach it
pub record Ready (c : Counts) (m g t h sets : List (List ℕ)) (r : Sheet) : Type 0 where
  pub text : List ℕ
  pub names : List (List ℕ)
  pub valid : List ℕ
  pub stands : StandsFor text (tables names valid m g t h) c r
  pub accepted : Accepted r
  pub reaches : Reaches r (λ q. get_or sets q [])

-- `out` tells for each state, of the products that reach it, in which the guard of a move line out of it holds
abbrev pub Outward : Counts → List (List ℕ) → List (List ℕ) → List (List ℕ) → List (List ℕ) → Type 0
Outward c m g sets out = (q : ℕ) → q < 64 → (p : ℕ) → In (get_or sets q []) p → has (get_or out q []) p ≡ guards_at m g q p (min c.moves 256)

-- the same of what lies on a desk
abbrev pub ReadyOn : Desk → Sheet → Type 0
ReadyOn d r = Ready d.sheet.counts d.sheet.moves.now d.sheet.move_guards.now d.sheet.stops.now d.sheet.stop_guards.now d.sets.now r

abbrev pub OutwardOn : Desk → Type 0
OutwardOn d = Outward d.sheet.counts d.sheet.moves.now d.sheet.move_guards.now d.sets.now d.out.now
