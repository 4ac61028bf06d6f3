-- Rows and tables, whatever they hold: one row more, one row less, the row of an element. The relation of a row is a variable throughout, so that
-- each law serves every table. Assumes nothing.
use Rattle.std.proofs.Common.{◌≡◌, refl, sym, ap, ap₂, ◌∙◌, ⊎_elim, List, [], ◌∷◌, ◌++◌, ℕ, suc, ◌+◌, ◌-◌, ◌<◌, eq-or-lt_of_le, add-one, arith, length, get_or, set, replicate, length-set, get_or-set_same, get_or-set_other}
use mathlib.Core.List.Memᴰ
use mathlib.Core.List.{Memᴰ}
use borrow.Author.Tests.{le-leb}
use lib.ListN.{length-replicate, get_or-replicate}
use Rattle.fields.specs.Bytes.{piece_of}
use Rattle.guards.specs.Reading.{names_of}
use Rattle.sheet.specs.Sheet.{Feature, names}
use Rattle.sheet.specs.Tables.{Lies, Rows, none, next, Table, FeatureRow}

-- ---- rows

module _ {A : Type 0} where
  pub rows_length : {R : ℕ → A → Type 0} {k : ℕ} {xs : List A} → Rows R k xs → length xs ≡ k
  rows_length none = refl
  rows_length (next r rs) = ap suc (rows_length rs)

  pub rows_keep : {R S : ℕ → A → Type 0} {k : ℕ} {xs : List A} → ((i : ℕ) (x : A) → i < k → R i x → S i x) → Rows R k xs → Rows S k xs
  rows_keep f none = none
  rows_keep f (next {k} {x} r rs) = next (f k x (omega arith) r) (rows_keep (λ i y h. f i y (omega arith)) rs)

  pub rows_none : {R : ℕ → A → Type 0} {k : ℕ} {xs : List A} → Rows R k xs → k ≡ 0 → xs ≡ []
  rows_none none e = refl
  rows_none (next r rs) e = absurd (omega arith)

  -- the last row
  pub rows_split : {R : ℕ → A → Type 0} {i : ℕ} {xs : List A} → Rows R i xs → 0 < i
      → (x : A) × (ys : List A) × (xs ≡ x ∷ ys) × R (i - 1) x × Rows R (i - 1) ys
  rows_split none h = absurd (omega arith)
  rows_split {R} (next {k} {x} {xs} r rs) h = let z : suc k - 1 ≡ k = omega arith in (x, xs, refl, rw z r, rw z rs)

  -- row i is for the element before which i elements were read
  pub rows_at : {R : ℕ → A → Type 0} {k : ℕ} {xs : List A} {i : ℕ} → Rows R k xs → i < k
      → (zs : List A) × (x : A) × (ys : List A) × (xs ≡ zs ++ x ∷ ys) × (length ys ≡ i) × R i x
  rows_at none h = absurd (omega arith)
  rows_at {R} {i = i} (next {k} {x} {xs} r rs) h =
      ⊎_elim (λ (e : i ≡ k). ([], x, xs, refl, rows_length rs ∙ sym e, rw e r))
      (λ (l : i < k). let z = rows_at rs l in (x ∷ z.0, z.1, z.2, ap (λ (l : List A). x ∷ l) z.3, z.4, z.5))
      (eq-or-lt_of_le (omega arith))

  -- and each element has its row
  pub rows_of : {R : ℕ → A → Type 0} {k : ℕ} {xs : List A} {x : A} → Rows R k xs → Memᴰ x xs → (i : ℕ) × (i < k) × R i x
  rows_of none m = elim m [ ]
  rows_of (next {k} r rs) (Memᴰ.head e) = (k, omega arith, rw e r)
  rows_of (next {k} r rs) (Memᴰ.tail m) = let z = rows_of rs m in (z.0, omega arith, z.2)

-- ---- tables

module _ {A : Type 0} {R : List ℕ → A → Type 0} {blank : List ℕ} where
  pub table_blank : (n : ℕ) → Table R blank (replicate n blank) 0 []
  table_blank n =
      record { few = omega arith; rows = none; rest = λ i l h. get_or-replicate n i blank [] (omega (arith, length-replicate n blank)) }

  pub table_put : {t : List (List ℕ)} {k : ℕ} {xs : List A} {row : List ℕ} {x : A} → Table R blank t k xs → k < length t → R row x
      → Table R blank (set t k row) (k + 1) (x ∷ xs)
  table_put {t} {k} {xs} {row} {x} h lt r =
      let long : length (set t k row) ≡ length t = length-set t k row in
      record {
        few = omega arith;
        rows =
            rw (add-one k)
            (next {k = k} {x = x} (rw (get_or-set_same t k row [] (omega arith)) r)
            (rows_keep (λ i y l q. rw (get_or-set_other t k i row [] (omega arith)) q) h.rows));
        rest = λ i l m. rw (get_or-set_other t k i row [] (omega arith)) (h.rest i (omega arith) (omega arith));
      }

-- a table that was filled throughout, by its own length
pub table_filled : (t u : List (List ℕ)) (blank : List ℕ) → length u ≡ length t → u ≡ replicate (length t) blank → u ≡ replicate (length u) blank
table_filled t u blank e f = rw e f

-- ---- what lies in the sheet, by its place and the place behind it

pub piece_lies : {s x : List ℕ} {p : ℕ} → Lies s x p → piece_of s p (p + length x) ≡ x
unfolding piece_of
piece_lies {s} {x} {p} h = rw (le-leb p (p + length x) (omega arith), le-leb (p + length x) (length s) h.within) h.is

-- ---- the names of the features

pub names_length : (fs : List Feature) → length (names fs) ≡ length fs
unfolding names
names_length [] = refl
names_length (f ∷ fs) = ap suc (names_length fs)

names_piece : {s row : List ℕ} {f : Feature} → FeatureRow s row f → piece_of s (get_or row 0 0) (get_or row 1 0) ≡ f.name
names_piece h = rw h.is (piece_lies h.lies)

pub names_of_lem : (s : List ℕ) (t : List (List ℕ)) {k : ℕ} {fs : List Feature} → Rows (λ i f. FeatureRow s (get_or t i []) f) k fs → names_of s t k ≡ names fs
unfolding names_of names
names_of_lem s t none = refl
names_of_lem s t (next r rs) = ap₂ (λ (x : List ℕ) (xs : List (List ℕ)). x ∷ xs) (names_piece r) (names_of_lem s t rs)

-- rows for one list in two ways are rows for it in both
pub rows_both : {A : Type 0} {R S : ℕ → A → Type 0} {k : ℕ} {xs : List A} → Rows R k xs → Rows S k xs → Rows (λ i x. R i x × S i x) k xs
rows_both none none = none
rows_both (next a rs) (next b ss) = next (a, b) (rows_both rs ss)

-- the line that row i is for
pub rows_in : {A : Type 0} {R : ℕ → A → Type 0} {k : ℕ} {xs : List A} {i : ℕ} → Rows R k xs → i < k → (x : A) × Memᴰ x xs × R i x
rows_in {A} {R} {k} {xs} {i} h l = at (rows_at h l)
  where
    at : (zs : List A) × (x : A) × (ys : List A) × (xs ≡ zs ++ x ∷ ys) × (length ys ≡ i) × R i x → (x : A) × Memᴰ x xs × R i x
    at (zs, x, ys, e, n, y) = (x, rw e (Memᴰ.append_right zs (Memᴰ.head refl)), y)
