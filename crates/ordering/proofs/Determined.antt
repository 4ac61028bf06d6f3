-- What `order_moves` promises leaves no choice: how many rows are kept and what stands in the array afterwards are determined. Assumes nothing.
use Rattle.std.proofs.Common.{◌≡◌, List, ℕ, length, ap}
use Rattle.ordering.specs.Ordering.{Orders}
use Rattle.ordering.proofs.Laws.{ordered_one}

pub orders_determined : {key : ℕ → List ℕ} {P : ℕ → Type 0} {n r r' : ℕ} {order laid laid' : List ℕ} → Orders key P n order laid r
    → Orders key P n order laid' r' → (r ≡ r') × (laid ≡ laid')
orders_determined o u =
    let e : o.rows ≡ u.rows = ordered_one o.ordered u.ordered in
    let d = ap length e in
    (cc, cc)
