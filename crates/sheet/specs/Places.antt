-- What stands at the place of a refusal, told by the sheet's lines and bytes; the definition of reading (Reading) computes the place. Assumes nothing:
-- these are definitions.
use Rattle.std.specs.Prelude.{true, false, cond, List, [], ◌∷◌, ◌++◌, ◌≡◌, ℕ, ◌+◌, length, Some, None}
use Rattle.refusals.specs.declared.Reason.{Reason}
use Rattle.refusals.specs.declared.Reason.TheVariants as because
use Rattle.refusals.specs.declared.Refusal.{Refusal}
use Rattle.refusals.specs.Refusal.{number_of}
use Rattle.fields.specs.Bytes.{same_bytes, is_name, is_action, read_state}
use Rattle.fields.specs.Cutting.{lines, fields}
use Rattle.guards.specs.Places.{Leftmost}
use Rattle.sheet.specs.Reading.{feature_word, valid_word, start_word, move_word, stop_word}

-- line n of the sheet s, "counted from 1", with the lines above and below it
pub record LineOf (s : List ℕ) (n : ℕ) : Type 0 where
  pub above : List (List ℕ)
  pub line : List ℕ
  pub below : List (List ℕ)
  pub are : lines s ≡ above ++ line ∷ below
  pub numbered : n ≡ length above + 1

-- the bytes of these fields, each with its tab
unfoldable pub tabbed : List (List ℕ) → List ℕ
tabbed [] = []
tabbed (f ∷ fs) = f ++ (9 ∷ tabbed fs)

-- in the line l the field x stands behind these, and begins at place p, "counted from 1 in its line"
pub record FieldAt (l : List ℕ) (before : List (List ℕ)) (x : List ℕ) (p : ℕ) : Type 0 where
  pub after : List (List ℕ)
  pub cut : fields l ≡ before ++ x ∷ after
  pub rest : List ℕ
  pub is : l ≡ tabbed before ++ (x ++ rest)
  pub place : p ≡ length (tabbed before) + 1

-- ---- 4 and 9

-- "where the field concerned begins, empty or not (for 9 on a move, of its from field)": the number, the fields before that one, and the field itself. Of 4
-- it is the first bad one, "the fields from the left"; that a line of 9 is a repeat is told by its number
pub data Concerned : Reason → List (List ℕ) → List ℕ → Type 0 where
  name : {x : List ℕ} → is_name x ≡ false → Concerned because.BadField (feature_word ∷ []) x
  start : {x : List ℕ} → read_state x ≡ None → Concerned because.BadField (start_word ∷ []) x
  from : {x : List ℕ} → read_state x ≡ None → Concerned because.BadField (move_word ∷ []) x
  action : {f x : List ℕ} {q : ℕ} → read_state f ≡ Some q → is_action x ≡ false → Concerned because.BadField (move_word ∷ f ∷ []) x
  to : {f a x : List ℕ} {q : ℕ} → read_state f ≡ Some q → is_action a ≡ true → read_state x ≡ None → Concerned because.BadField (move_word ∷ f ∷ a ∷ []) x
  stop : {x : List ℕ} → read_state x ≡ None → Concerned because.BadField (stop_word ∷ []) x
  of_feature : {x : List ℕ} → Concerned because.Repeat (feature_word ∷ []) x
  of_move : {x : List ℕ} → Concerned because.Repeat (move_word ∷ []) x
  of_stop : {x : List ℕ} → Concerned because.Repeat (stop_word ∷ []) x

-- the refusal has the number of this reason, and at its line and place the field concerned begins
pub record FieldThere (s : List ℕ) (q : Refusal) : Type 0 where
  pub of : LineOf s q.line
  pub why : Reason
  pub told : q.number ≡ number_of why
  pub before : List (List ℕ)
  pub field : List ℕ
  pub concerned : Concerned why before field
  pub begins : FieldAt of.line before field q.place

-- ---- 5, 6 and 7

-- the name that a line with these fields declares, before those in ns
abbrev pub declaring : List (List ℕ) → List (List ℕ) → List (List ℕ)
declaring [] ns = ns
declaring (w ∷ []) ns = ns
declaring (w ∷ x ∷ []) ns = cond (same_bytes w feature_word) (x ∷ ns) ns
declaring (w ∷ x ∷ y ∷ fs) ns = ns

-- the names that these lines declare, the last first, before those in ns
unfoldable pub declared_in : List (List ℕ) → List (List ℕ) → List (List ℕ)
declared_in [] ns = ns
declared_in (l ∷ ls) ns = declared_in ls (declaring (fields l) ns)

-- the fields before a guard
pub data BeforeGuard : List (List ℕ) → Type 0 where
  valid : BeforeGuard (valid_word ∷ [])
  move : {f a t : List ℕ} → BeforeGuard (move_word ∷ f ∷ a ∷ t ∷ [])
  stop : {q : List ℕ} → BeforeGuard (stop_word ∷ q ∷ [])

-- "the place of the faulty byte": the refusal has the number of the reason for which its line's guard, which begins at place p, is refused, and the refusal's
-- place is as much further as bytes stand before the leftmost faulty one, over the names declared above. So "a guard that ends too soon gives the place one
-- past its last byte"
pub record ByteThere (s : List ℕ) (q : Refusal) : Type 0 where
  pub of : LineOf s q.line
  pub why : Reason
  pub told : q.number ≡ number_of why
  pub before : List (List ℕ)
  pub guarded : BeforeGuard before
  pub guard : List ℕ
  pub p : ℕ
  pub begins : FieldAt of.line before guard p
  pub from : List ℕ
  pub leftmost : Leftmost (declared_in of.above []) guard why from
  pub there : q.place ≡ p + length leftmost.before
