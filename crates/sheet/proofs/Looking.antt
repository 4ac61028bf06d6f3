-- Looking through the rows of a table from the last back, for a test f of the list that is an "or" over its elements. While the loop runs, the
-- test of the whole list is the test of the rows not yet looked at. Assumes nothing.
use Rattle.std.proofs.Common.{◌≡◌, refl, sym, ap, ◌∙◌, Bool, true, false, List, [], ◌∷◌, ℕ, ◌-◌, ◌≤◌, ◌<◌, arith, eqb, get_or}
use borrow.Author.Tests.{eq-eqb, ne_eqb}
use Rattle.fields.specs.Bytes.{piece_of, same_bytes}
use Rattle.sheet.specs.Sheet.{Move, Stop}
use Rattle.sheet.specs.Reading.{is_move, moved, stopped}
use Rattle.sheet.specs.Tables.{Rows, MoveRow, StopRow}
use Rattle.sheet.proofs.Rows.{rows_split, rows_none, piece_lies}
use Rattle.sheet.proofs.Apart.{stopped_here, stopped_other}

pub record Looked {A : Type 0} (R : ℕ → A → Type 0) (f : List A → Bool) (n i : ℕ) : Type 0 where
  pub most : i ≤ n
  pub left : (xs : List A) → Rows R n xs → (ys : List A) × Rows R i ys × (f xs ≡ f ys)

module _ {A : Type 0} (R : ℕ → A → Type 0) (f : List A → Bool) where
  pub looked_all : (n : ℕ) → Looked R f n n
  looked_all n = record { most = omega arith; left = λ xs h. (xs, h, refl) }

  module _ {n i : ℕ} (k : Looked R f n i) where
    module _ (l : 0 < i) where
      pub looked_more : ((x : A) (ys : List A) → R (i - 1) x → f (x ∷ ys) ≡ f ys) → Looked R f n (i - 1)
      looked_more e =
          let m = k.most in
          record {
            most = omega arith;
            left = λ xs h.
                let y = k.left xs h in
                let z = rows_split y.1 l in
                (z.1, z.4, y.2 ∙ ap f z.2 ∙ e z.0 z.1 z.3);
          }

      pub looked_found : ((x : A) (ys : List A) → R (i - 1) x → f (x ∷ ys) ≡ true) → (xs : List A) → Rows R n xs → true ≡ f xs
      looked_found e xs h =
          let y = k.left xs h in
          let z = rows_split y.1 l in
          sym (y.2 ∙ ap f z.2 ∙ e z.0 z.1 z.3)

    pub looked_none : i ≤ 0 → f [] ≡ false → (xs : List A) → Rows R n xs → false ≡ f xs
    looked_none l e xs h =
        let y = k.left xs h in
        sym (y.2 ∙ ap f (rows_none y.1 (omega arith)) ∙ e)

-- ---- stops

module _ (row : List ℕ) (d : Stop) (ds : List Stop) (h : StopRow row d) where
  state_is : get_or row 1 0 ≡ d.state
  state_is = ap (λ (r : List ℕ). get_or r 1 0) h

  pub stop_found : {q : ℕ} → q ≡ get_or row 1 0 → stopped q (d ∷ ds) ≡ true
  stop_found {q} e = stopped_here d ds q (e ∙ state_is)

  pub stop_more : {q : ℕ} → (q ≡ get_or row 1 0 → ⊥) → stopped q (d ∷ ds) ≡ stopped q ds
  stop_more {q} e = stopped_other d ds q (λ z. e (z ∙ sym state_is))

pub stop_none : (q : ℕ) → stopped q [] ≡ false
unfolding stopped
stop_none q = refl

-- ---- moves

module _ (from : ℕ) (action : List ℕ) (to : ℕ) {s row : List ℕ} {m : Move} (h : MoveRow s row m) where
  pub from_other : (from ≡ get_or row 1 0 → ⊥) → false ≡ is_move from action to m
  from_other e = rw (ne_eqb from m.from (λ z. e (z ∙ sym (ap (λ (r : List ℕ). get_or r 1 0) h.is))))

  module _ (e : from ≡ get_or row 1 0) where
    same_from : eqb from m.from ≡ true
    same_from = eq-eqb from m.from (e ∙ ap (λ (r : List ℕ). get_or r 1 0) h.is)

    pub to_other : (to ≡ get_or row 4 0 → ⊥) → false ≡ is_move from action to m
    to_other f = rw (same_from, ne_eqb to m.to (λ z. f (z ∙ sym (ap (λ (r : List ℕ). get_or r 4 0) h.is))))

    pub action_same : to ≡ get_or row 4 0 → {x : List ℕ} → x ≡ piece_of s (get_or row 2 0) (get_or row 3 0) → {r : Bool} → r ≡ same_bytes x action
        → r ≡ is_move from action to m
    action_same f {x} g {r} q =
        let y : x ≡ m.action = g ∙ ap (λ (z : List ℕ). piece_of s (get_or z 2 0) (get_or z 3 0)) h.is ∙ piece_lies h.lies in
        rw (same_from, eq-eqb to m.to (f ∙ ap (λ (r : List ℕ). get_or r 4 0) h.is)) (q ∙ ap (λ (z : List ℕ). same_bytes z action) y)

module _ (from : ℕ) (action : List ℕ) (to : ℕ) (m : Move) (ms : List Move) where
  pub move_found : is_move from action to m ≡ true → moved from action to (m ∷ ms) ≡ true
  unfolding moved
  move_found e = rw e

  pub move_more : is_move from action to m ≡ false → moved from action to (m ∷ ms) ≡ moved from action to ms
  unfolding moved
  move_more e = rw e

pub move_none : (from : ℕ) (action : List ℕ) (to : ℕ) → moved from action to [] ≡ false
unfolding moved
move_none from action to = refl
