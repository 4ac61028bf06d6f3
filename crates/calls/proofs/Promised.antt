-- What the calls promise determines their answers and the rooms: reading is a function, and only one text is a call's result. One law serves every call
-- with one room. Assumes nothing.
use Rattle.std.proofs.Common.{Result, Ok, Err}
use mathlib.Core.Path.{◌≡◌, sym, ap, ◌∙◌}
use mathlib.Core.List.{List}
use mathlib.Core.Logic.{◌⊎◌, inl, inr}
use Prim.Native.Nat.{ℕ}
use native.Mathlib.Omega.{arith}
use lib.ListN.{length}
use Rattle.refusals.specs.declared.Refusal.{Refusal}
use Rattle.products.specs.declared.Order.{Order}
use Rattle.products.specs.declared.Order.TheVariants.{Plainest}
use Rattle.products.specs.Orders.{Before}
use Rattle.products.proofs.Ordered.{before_one}
use Rattle.sheet.specs.Sheet.{Sheet}
use Rattle.sheet.specs.Reading.{kept, refused, read_sheet}
use Rattle.sheet.proofs.Accepted.{kept_refused}
use Rattle.reporting.specs.Report.{IsReport}
use Rattle.reporting.proofs.Determined.{report_determined}
use Rattle.normal.specs.Clean.{IsClean}
use Rattle.calls.specs.Promise.{Filled, TooLong, Fits, OneText, nothing, ReportPromise, clean_most, CleanPromise, EitherTooLong, BothPromise}
use Rattle.calls.proofs.Desk.{one_clean}

-- a text has one sheet
pub kept_one : (s : List ℕ) {q r : Sheet} → read_sheet s ≡ kept q → read_sheet s ≡ kept r → q ≡ r
kept_one s a b = cc

-- ---- one text

pub filled_fits : {Is : List ℕ → Type 0} {most : ℕ} {room x : List ℕ} {m : ℕ} → Filled Is most room x m → Fits Is most
filled_fits p = record { text = p.text; is = p.is; fits = p.fits }

module _ {Is : List ℕ → Type 0} (one-text : (x y : List ℕ) → Is x → Is y → x ≡ y) {most : ℕ} where
  filled_once : {room x y : List ℕ} {m n : ℕ} → Filled Is most room x m → Filled Is most room y n → (m ≡ n) × (x ≡ y)
  filled_once {m = m} {n} p q =
      let e = one-text p.text q.text p.is q.is in
      let k : m ≡ n = p.is_length ∙ ap length e ∙ sym q.is_length in
      (k, (cc))

  fits_long : {line : ℕ} {q : Refusal} → Fits Is most → TooLong Is most line q → ⊥
  fits_long p q = let z = ap length (one-text p.text q.text p.is q.is) in omega (arith, p.fits, q.longer)

-- ---- a call with one room: its text is one, what it refuses of a sheet is one refusal, and then there is no text
module _ (No : Sheet → Refusal → Type 0) (Is : Sheet → List ℕ → Type 0) (most : ℕ) (one-text : (r : Sheet) (x y : List ℕ) → Is r x → Is r y → x ≡ y)
    (one_no : (r : Sheet) (p q : Refusal) → No r p → No r q → p ≡ q) (apart : (r : Sheet) (q : Refusal) (x : List ℕ) → No r q → Is r x → ⊥) (s room : List ℕ) where
  abbrev Refuses : Refusal → Type 0
  Refuses q = (read_sheet s ≡ refused q) ⊎ ((r : Sheet) × (read_sheet s ≡ kept r) × (No r q ⊎ TooLong (Is r) most 0 q))

  done_refused : {r : Sheet} {x : List ℕ} {m : ℕ} {q : Refusal} → read_sheet s ≡ kept r → Filled (Is r) most room x m → Refuses q → ⊥
  done_refused a p (inl e) = kept_refused s a e
  done_refused a p (inr (r, b, inl z)) = apart _ _ _ (rw (kept_one s b a) at z) p.is
  done_refused a p (inr (r, b, inr z)) = fits_long (one-text _) (filled_fits p) (rw (kept_one s b a) at z)

  refused_one : {r : Sheet} {p q : Refusal} → No r p ⊎ TooLong (Is r) most 0 p → No r q ⊎ TooLong (Is r) most 0 q → p ≡ q
  refused_one (inl x) (inl y) = one_no _ _ _ x y
  refused_one (inl x) (inr y) = absurd (apart _ _ _ x y.is)
  refused_one (inr x) (inl y) = absurd (apart _ _ _ y x.is)
  refused_one (inr x) (inr y) = x.eleven ∙ sym y.eleven

  refused_once : {p q : Refusal} → Refuses p → Refuses q → p ≡ q
  refused_once (inl x) (inl y) = cc
  refused_once (inl x) (inr (r, a, y)) = absurd (kept_refused s a x)
  refused_once (inr (r, a, x)) (inl y) = absurd (kept_refused s a y)
  refused_once (inr (r, a, x)) (inr (t, b, y)) = refused_one x (rw (kept_one s b a) at y)

  -- any two answers with their rooms that meet the promise are equal
  pub one_text_determined : (x y : List ℕ) (a b : Result ℕ Refusal) → OneText No Is most s room x a → OneText No Is most s room y b → (a ≡ b) × (x ≡ y)
  one_text_determined x y (Ok m) (Ok n) (r, a, p) (q, b, z) = let (k, e) = filled_once (one-text _) p (rw (kept_one s b a) at z) in (ap Ok k, e)
  one_text_determined x y (Ok m) (Err q) (r, a, p) z = absurd (done_refused a p z.1)
  one_text_determined x y (Err p) (Ok n) z (r, a, q) = absurd (done_refused a q z.1)
  one_text_determined x y (Err p) (Err q) z w = (ap Err (refused_once z.1 w.1), z.0 ∙ sym w.0)

pub report_promise_determined : (o : Order) (s room x y : List ℕ) (a b : Result ℕ Refusal) → ReportPromise o s room x a → ReportPromise o s room y b → (a ≡ b) × (x ≡ y)
report_promise_determined o s room x y a b p q =
    one_text_determined nothing (IsReport (Before o)) (length room) (λ r x y i j. report_determined (before_one o) x y i j) (λ r d e z w. absurd z) (λ r e x z i. z) s room x y a b p q

pub clean_promise_determined : (s room x y : List ℕ) (a b : Result ℕ Refusal) → CleanPromise s room x a → CleanPromise s room y b → (a ≡ b) × (x ≡ y)
clean_promise_determined s room x y a b p q =
    one_text_determined nothing IsClean (clean_most room) (λ r x y i j. one_clean x y i j) (λ r d e z w. absurd z) (λ r e x z i. z) s room x y a b p q

-- ---- the call with two rooms

plainest_determined : {r : Sheet} (x y : List ℕ) → IsReport (Before Plainest) r x → IsReport (Before Plainest) r y → x ≡ y
plainest_determined = report_determined (before_one Plainest)

module _ (s room clean : List ℕ) where
  abbrev RefusesBoth : Refusal → Type 0
  RefusesBoth q = (read_sheet s ≡ refused q) ⊎ ((r : Sheet) × (read_sheet s ≡ kept r) × EitherTooLong r room clean q)

  either_fits : {r : Sheet} {q : Refusal} → Fits (IsReport (Before Plainest) r) (length room) → Fits (IsClean r) (clean_most clean) → EitherTooLong r room clean q → ⊥
  either_fits p c (inl z) = fits_long plainest_determined p z
  either_fits p c (inr (f, z)) = fits_long one_clean c z

  both_refused : {r : Sheet} {x y : List ℕ} {m k : ℕ} {q : Refusal} → read_sheet s ≡ kept r → Filled (IsReport (Before Plainest) r) (length room) room x m
      → Filled (IsClean r) (clean_most clean) clean y k → RefusesBoth q → ⊥
  both_refused a p c (inl e) = kept_refused s a e
  both_refused a p c (inr (r, b, z)) = either_fits (filled_fits p) (filled_fits c) (rw (kept_one s b a) at z)

  either_one : {r : Sheet} {p q : Refusal} → EitherTooLong r room clean p → EitherTooLong r room clean q → p ≡ q
  either_one (inl x) (inl y) = x.eleven ∙ sym y.eleven
  either_one (inl x) (inr (f, y)) = absurd (fits_long plainest_determined f x)
  either_one (inr (f, x)) (inl y) = absurd (fits_long plainest_determined f y)
  either_one (inr (f, x)) (inr (g, y)) = x.eleven ∙ sym y.eleven

  both_refused_once : {p q : Refusal} → RefusesBoth p → RefusesBoth q → p ≡ q
  both_refused_once (inl x) (inl y) = cc
  both_refused_once (inl x) (inr (r, a, y)) = absurd (kept_refused s a x)
  both_refused_once (inr (r, a, x)) (inl y) = absurd (kept_refused s a y)
  both_refused_once (inr (r, a, x)) (inr (t, b, y)) = either_one x (rw (kept_one s b a) at y)

  pub both_promise_determined : (x y u v : List ℕ) (a b : Result (ℕ × ℕ) Refusal) → BothPromise s room x clean u a → BothPromise s room y clean v b → (a ≡ b) × (x ≡ y) × (u ≡ v)
  both_promise_determined x y u v (Ok (m, k)) (Ok (n, j)) (r, a, p, c) (q, b, z, w) =
      let (e, f) = filled_once plainest_determined p (rw (kept_one s b a) at z) in
      let (g, h) = filled_once one_clean c (rw (kept_one s b a) at w) in
      (ap (λ (i : ℕ). Ok (i, k)) e ∙ ap (λ (i : ℕ). Ok (n, i)) g, f, h)
  both_promise_determined x y u v (Ok (m, k)) (Err q) (r, a, p, c) z = absurd (both_refused a p c z.2)
  both_promise_determined x y u v (Err q) (Ok (n, j)) z (r, a, p, c) = absurd (both_refused a p c z.2)
  both_promise_determined x y u v (Err p) (Err q) z w = (ap Err (both_refused_once z.2 w.2), z.0 ∙ sym w.0, z.1 ∙ sym w.1)
