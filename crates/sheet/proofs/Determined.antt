-- The promise of `read_sheet` determines the answer and the tables: the text determines the sheet, the sheet determines each row of a table, and
-- behind the rows of a sheet a table is blank. Assumes nothing.
use Rattle.refusals.specs.declared.Refusal.{Refusal}
use Rattle.std.proofs.Common.{Result, Ok, Err, ◌≡◌, sym, ap, subst, ◌∙◌, ⊎_elim, List, [], ℕ, ◌-◌, ◌<◌, eq-zero-or-pos, arith, length, get_or, ext_get_or}
use Rattle.products.specs.Sets.{one_if, Words}
use Rattle.products.proofs.Determined.{members_determine}
use Rattle.guards.specs.Guard.{Guard, holds, Means}
use Rattle.sheet.specs.declared.Counts.{Counts}
use Rattle.sheet.specs.Sheet.{Sheet, is_valid}
use Rattle.sheet.specs.Tables.{Tables, Rows, none, next, Table, StandsFor, Sized, ReadsSheet}
use Rattle.sheet.proofs.Rows.{rows_length}

-- what every value of the tables' types is: each set is sixteen words
pub record Typed (T : Tables) : Type 0 where
  pub valid : Words T.valid
  pub move_guards : (i : ℕ) → i < length T.move_guards → Words (get_or T.move_guards i [])
  pub stop_guards : (i : ℕ) → i < length T.stop_guards → Words (get_or T.stop_guards i [])

-- ---- tables for one list

module _ {A : Type 0} where
  rows_both : {R S : ℕ → A → Type 0} {k : ℕ} {xs : List A} {i : ℕ} → Rows R k xs → Rows S k xs → i < k → (x : A) × R i x × S i x
  rows_both none none h = absurd (omega arith)
  rows_both {i = i} (next {k} {x} r rs) (next q qs) h =
      ⊎_elim (λ (z : k - i ≡ 0). let e : i ≡ k = omega arith in (x, rw e r, rw e q)) (λ l. rows_both rs qs (omega arith)) (eq-zero-or-pos (k - i))

  module _ {R : List ℕ → A → Type 0} {blank : List ℕ} {t u : List (List ℕ)} {xs : List A} (long : length t ≡ length u)
      (one : (i : ℕ) → i < length t → (x : A) → R (get_or t i []) x → R (get_or u i []) x → get_or t i [] ≡ get_or u i []) where
    same_table : {k : ℕ} → Table R blank t k xs → Table R blank u k xs → t ≡ u
    same_table {k} a b =
        ext_get_or [] t u long
        (λ i h.
        ⊎_elim (λ (z : k - i ≡ 0). a.rest i (omega arith) h ∙ sym (b.rest i (omega arith) (omega arith)))
        (λ f. let z = rows_both a.rows b.rows (omega arith) in one i h z.0 z.1 z.2) (eq-zero-or-pos (k - i)))

    pub table_determined : {k m : ℕ} → Table R blank t k xs → Table R blank u m xs → (k ≡ m) × (t ≡ u)
    table_determined {k} {m} a b =
        let e : k ≡ m = sym (rows_length a.rows) ∙ rows_length b.rows in
        (e, same_table (rw e at a) b)

-- ---- the sets that one guard allows

pub same_set : {a b : List ℕ} (g : Guard) → Words a → Words b → Means a g → Means b g → a ≡ b
unfolding Means
same_set {a} {b} g wa wb p q = members_determine (λ n. one_if (holds g n)) a b wa wb p q

-- ---- the tables and the counts that one sheet allows

same_counts : {c d : Counts} → c.features ≡ d.features → c.start ≡ d.start → c.moves ≡ d.moves → c.stops ≡ d.stops → c ≡ d
same_counts p q r t i = record { features = p i; start = q i; moves = r i; stops = t i }

same_tables : {T U : Tables} → T.names ≡ U.names → T.valid ≡ U.valid → T.moves ≡ U.moves → T.move_guards ≡ U.move_guards → T.stops ≡ U.stops
    → T.stop_guards ≡ U.stop_guards → T ≡ U
same_tables p q r t u v i = record { names = p i; valid = q i; moves = r i; move_guards = t i; stops = u i; stop_guards = v i }

pub tables_determined : {m g t h : ℕ} {s : List ℕ} {T U : Tables} {c d : Counts} {r : Sheet} → Typed T → Typed U → Sized m g t h T → Sized m g t h U
    → StandsFor s T c r → StandsFor s U d r → (c ≡ d) × (T ≡ U)
tables_determined {T = T} {U} {r = r} x y k l p q =
    let more = k.move_guards ∙ sym l.move_guards in
    let last = k.stop_guards ∙ sym l.stop_guards in
    let features = table_determined (p.filled.ten ∙ sym q.filled.ten) (λ i h f a b. a.is ∙ sym b.is) p.filled.names q.filled.names in
    let moves = table_determined (k.moves ∙ sym l.moves) (λ i h m a b. a.is ∙ sym b.is) p.filled.moves q.filled.moves in
    let guards = table_determined more (λ i h m. same_set m.guard (x.move_guards i h) (y.move_guards i (subst (λ (n : ℕ). i < n) more h)))
    p.filled.move_guards q.filled.move_guards in
    let stops = table_determined (k.stops ∙ sym l.stops) (λ i h d a b. a ∙ sym b) p.filled.stops q.filled.stops in
    let ends = table_determined last (λ i h d. same_set d.guard (x.stop_guards i h) (y.stop_guards i (subst (λ (n : ℕ). i < n) last h)))
    p.filled.stop_guards q.filled.stop_guards in
    let valid = members_determine (λ n. one_if (is_valid r n)) T.valid U.valid x.valid y.valid p.valid q.valid in
    (same_counts features.0 (p.start ∙ sym q.start) moves.0 stops.0, same_tables features.1 valid moves.1 guards.1 stops.1 ends.1)

pub sheet_determined : (m g t h : ℕ) (s : List ℕ) {T U : Tables} (a b : Result Counts Refusal) → ReadsSheet m g t h s T a → ReadsSheet m g t h s U b → Typed T → Typed U
    → (a ≡ b) × (T ≡ U)
sheet_determined m g t h s (Ok c) (Ok d) ((r, p, stands), k) ((v, q, for), l) x y =
    let e : r ≡ v = cc in
    let z = tables_determined x y k l stands (rw (sym e) at for) in
    (ap Ok z.0, z.1)
sheet_determined m g t h s (Ok c) (Err e) ((r, p, stands), k) q x y = let z : ◌≡◌ {A = ℕ} 0 1 = cc in absurd (omega arith)
sheet_determined m g t h s (Err e) (Ok d) p ((v, q, for), l) x y = let z : ◌≡◌ {A = ℕ} 0 1 = cc in absurd (omega arith)
sheet_determined m g t h s (Err e) (Err d) p q x y = (cc, p.1 ∙ sym q.1)
