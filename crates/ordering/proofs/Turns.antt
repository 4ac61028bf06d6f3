-- Row after row: a row that no product makes is passed over, and any other is put in its place among those before it. Assumes nothing.
use Rattle.std.proofs.Common.{◌≡◌, List, [], ◌++◌, ℕ, ◌+◌, ◌%◌, ◌≤◌, length, get_or, take, drop, refl, sym, ap, ◌∙◌, add-one, arith, drop-drop, take_at}
use lib.Seq.{drop-append-add}
use Rattle.products.specs.Sets.{InBoth}
use Rattle.products.proofs.Laws.{has_row}
use Rattle.ordering.specs.Ordering.{MadeRow, insert_by, none, takes, passes, Orders}
use Rattle.ordering.specs.Inside.{Level}
use Rattle.ordering.proofs.Laws.{insert_length, orders_level}

-- ---- whether some product makes the row's move

module _ (t guards sets : List (List ℕ)) (i : ℕ) where
  -- nothing reaches a source that has no set
  pub row_none : length sets ≤ get_or (get_or t i []) 1 0 % 64 → MadeRow t guards sets i → ⊥
  row_none h m = omega (arith, has_row sets (get_or (get_or t i []) 1 0 % 64) (record { small = m.small; is = m.reached }))

  -- the move's source and its guard share no product
  pub row_dead : ((p : ℕ) → InBoth (get_or sets (get_or (get_or t i []) 1 0 % 64) []) (get_or guards i []) p → ⊥) → MadeRow t guards sets i → ⊥
  row_dead apart m = apart m.product (record { first = record { small = m.small; is = m.reached }; second = m.held })

  -- they share one
  pub row_made : (p : ℕ) × InBoth (get_or sets (get_or (get_or t i []) 1 0 % 64) []) (get_or guards i []) p → MadeRow t guards sets i
  row_made (p, m) = record { product = p; small = m.first.small; reached = m.first.is; held = m.second }

-- ---- one row more

module _ {key : ℕ → List ℕ} {P : ℕ → Type 0} where
  pub orders_start : (first : List ℕ) → Orders key P 0 first first 0
  orders_start first = record { rows = []; ordered = none; many = refl; laid = refl }

  module _ {i kept : ℕ} {first order : List ℕ} (o : Orders key P i first order kept) where
    pub orders_pass : (P i → ⊥) → Orders key P (i + 1) first order kept
    orders_pass f = record { rows = o.rows; ordered = rw add-one (passes f o.ordered); many = o.many; laid = o.laid }

    pub orders_take : {order' : List ℕ} → (Level key kept order → order' ≡ insert_by key i (take kept order) ++ drop (kept + 1) order) → P i
        → Orders key P (i + 1) first order' (kept + 1)
    orders_take e p =
        let a : take kept order ≡ o.rows = rw o.laid (take_at o.rows (drop kept first) kept (sym o.many)) in
        let b : drop (kept + 1) order ≡ drop (kept + 1) first =
        rw o.laid (ap (λ (k : ℕ). drop (k + 1) (o.rows ++ drop kept first)) o.many ∙ drop-append-add o.rows (drop kept first) 1 ∙ drop-drop 1 kept first) in
        record {
          rows = insert_by key i o.rows;
          ordered = rw add-one (takes p o.ordered);
          many = omega (arith, o.many, insert_length key i o.rows);
          laid = e (orders_level o) ∙ rw (a, b);
        }
