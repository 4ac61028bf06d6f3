-- What a caller of `put_clean` has: what `order_moves` promises is enough for the order, and what `all_out` leaves of a blank table for `out`. Assumes
-- nothing.
use mathlib.Core.Path.{◌≡◌}
use mathlib.Core.List.{List, []}
use Prim.Native.Nat.{ℕ, ◌%◌, ◌<◌, ◌≤◌, min, max}
use native.Mathlib.Omega.{arith}
use lib.ListN.{length, get_or, replicate}
use Rattle.products.specs.Sets.{has}
use Rattle.products.proofs.Laws.{has_row}
use Rattle.sheet.specs.declared.Counts.{Counts}
use Rattle.sheet.specs.Sheet.{Sheet}
use Rattle.sheet.specs.Tables.{Tables}
use Rattle.verdicts.specs.Judging.{guards_at}
use Rattle.verdicts.proofs.Gathered.{out_reached}
use Rattle.ordering.specs.Ordering.{key_at, MadeRow, Orders}
use Rattle.ordering.proofs.Laws.{orders_low, orders_has}
use Rattle.text.specs.Text.{Wrote}
use Rattle.text.proofs.Determined.{wrote_determined}
use Rattle.normal.specs.Clean.{IsClean}
use Rattle.normal.proofs.Unique.{is_clean_unique}
use Rattle.cleaning.specs.Laying.{Ready, Prepared, RowsWithin, Outs}
use Rattle.cleaning.proofs.Made.{rows_there}

-- tables that stand for the sheet, the states' sets, and the ordered rows
pub prepared : {s first order : List ℕ} {c : Counts} {T : Tables} {sets : List (List ℕ)} {kept : ℕ} {r : Sheet} → Ready s c T sets r
    → Orders (key_at s T.moves) (MadeRow T.moves T.move_guards sets) (min (min (min c.moves 256) (length T.moves)) (length T.move_guards)) first order kept
    → Prepared s c T sets order kept r
prepared {first = first} ready orders = record { ready = ready; first = first; orders = rw (rows_there ready.stands) at orders }

-- the ordered rows are there, and their sources have sets
pub within : {key : ℕ → List ℕ} (count : ℕ) {kept : ℕ} {m g sets : List (List ℕ)} {first order : List ℕ}
    → Orders key (MadeRow m g sets) (min (min (min count 256) (length m)) (length g)) first order kept → RowsWithin order kept m g sets
within count {sets = sets} {order = order} o =
    record {
      move = λ i l. omega (arith, orders_low o i l);
      guard = λ i l. omega (arith, orders_low o i l);
      set = λ i l.
          let e : get_or order i 0 % 256 ≡ get_or order i 0 = omega (arith, orders_low o i l) in
          let made = orders_has o i l in
          rw e (has_row sets _ (record { small = made.small; is = made.reached }));
    }

-- what was gathered in a blank table that has a row for each state that has a set
pub gathered_outs : {m g sets : List (List ℕ)} {k : ℕ} {old out : List (List ℕ)}
    → ((q : ℕ) → q < length old → (p : ℕ) → p < 1024 → has (get_or out q []) p ≡ max (has (get_or old q []) p) (guards_at m g q p k))
    → old ≡ replicate (length old) (replicate 16 0) → min 64 (length sets) ≤ length old → Outs m g sets k out
gathered_outs {m} {g} {sets} {k} {out = out} f e l = record { is = out_reached m g sets k (λ q. get_or out q []) e l f }

-- of the sheet that the tables stand for: the answer and the room are determined
pub put_clean_determined : {r : Sheet} {l x y : List ℕ} {m n : ℕ} → (vs : List ℕ) × IsClean r vs × Wrote l 0 vs x m
    → (vs : List ℕ) × IsClean r vs × Wrote l 0 vs y n → (x ≡ y) × (m ≡ n)
put_clean_determined (u, i, a) (v, j, b) = wrote_determined a (rw (is_clean_unique j i) at b)
