-- The order of moves, and the rows of a table of moves put in that order one after another. Assumes nothing: these are definitions.
use Rattle.std.specs.Prelude.{Bool, true, false, cond, ◌&&◌, ◌||◌, List, [], ◌∷◌, ◌++◌, ◌≡◌, ℕ, zero, suc, ◌%◌, ◌<◌, eqb, ltb, length, get_or, drop}
use Rattle.products.specs.Sets.{has}
use Rattle.fields.specs.Bytes.{piece_of}

-- "by bytes (a shorter action before its extensions)": whether x comes before y
unfoldable pub less_bytes : List ℕ → List ℕ → Bool
less_bytes [] [] = false
less_bytes [] (y ∷ ys) = true
less_bytes (x ∷ xs) [] = false
less_bytes (x ∷ xs) (y ∷ ys) = ltb x y || (eqb x y && less_bytes xs ys)

-- ---- rows: line, from, the action's place in the text, the place behind it, to

abbrev pub row_key : List ℕ → List ℕ → List ℕ
row_key s row = get_or row 1 0 ∷ get_or row 4 0 ∷ piece_of s (get_or row 2 0) (get_or row 3 0)

-- "in order of from, then to, then action": the order of these lists; there are 256 rows
unfoldable pub key_at : List ℕ → List (List ℕ) → ℕ → List ℕ
key_at s t i = row_key s (get_or t (i % 256) [])

-- some product reaches the row's source and makes its move: `sets` are the products that reach each state
pub record MadeRow (t guards sets : List (List ℕ)) (i : ℕ) : Type 0 where
  pub product : ℕ
  pub small : product < 1024
  pub reached : has (get_or sets (get_or (get_or t i []) 1 0 % 64) []) product ≡ 1
  pub held : has (get_or guards i []) product ≡ 1

-- x put in its place in a rising list: in front of the first that it is before
unfoldable pub insert_by : (ℕ → List ℕ) → ℕ → List ℕ → List ℕ
insert_by key x [] = x ∷ []
insert_by key x (y ∷ ys) = cond (less_bytes (key x) (key y)) (x ∷ y ∷ ys) (y ∷ insert_by key x ys)

-- the numbers of the rows below n with the property P, in order
pub data Ordered (key : ℕ → List ℕ) (P : ℕ → Type 0) : ℕ → List ℕ → Type 0 where
  none : Ordered key P zero []
  takes : {n : ℕ} {xs : List ℕ} → P n → Ordered key P n xs → Ordered key P (suc n) (insert_by key n xs)
  passes : {n : ℕ} {xs : List ℕ} → (P n → ⊥) → Ordered key P n xs → Ordered key P (suc n) xs

-- what `order_moves` promises: the first r places hold the rows in order, and the others are kept
pub record Orders (key : ℕ → List ℕ) (P : ℕ → Type 0) (n : ℕ) (order order' : List ℕ) (r : ℕ) : Type 0 where
  pub rows : List ℕ
  pub ordered : Ordered key P n rows
  pub many : r ≡ length rows
  pub laid : order' ≡ rows ++ drop r order
