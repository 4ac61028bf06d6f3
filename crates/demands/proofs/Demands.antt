-- The demands proved, in the order of specs/Demands; what a refusal can be stands in Refusals, that report and clean sheet exist in Exists, that spelling
-- isn't meaning in Respelled. Assumes nothing.
use Rattle.std.proofs.Common.{Ok, Err, Result}
use mathlib.Core.Path.{◌≡◌, refl, sym, ap, subst, ◌∙◌}
use mathlib.Core.List.{List, ◌++◌}
use mathlib.Core.Logic.{inl, inr}
use Prim.Native.Nat.{ℕ, ◌≤◌}
use native.Mathlib.Omega.{arith}
use lib.ListN.{length, take, drop}
use lib.Seq.{take-append_seam}
use Rattle.refusals.specs.declared.Reason.TheVariants as because
use Rattle.refusals.specs.declared.Refusal.{Refusal}
use Rattle.refusals.specs.Refusal.{refusal}
use Rattle.products.specs.declared.Order.{Order}
use Rattle.products.specs.declared.Order.TheVariants.{Plainest}
use Rattle.products.specs.Orders.{bits, fewer, Before}
use Rattle.products.proofs.Ordered.{before_total, before_one, before_on}
use Rattle.sheet.specs.Sheet.{Sheet}
use Rattle.sheet.specs.Reading.{kept, read_sheet}
use Rattle.sheet.proofs.Accepted.{accepted, kept_refused}
use Rattle.sheet.proofs.Numbered.{kept_lines}
use Rattle.sheet.proofs.ReadBack.{alike_names, alike_back}
use Rattle.family.proofs.Meaning.{depth_small}
use Rattle.reporting.specs.Report.{IsReport}
use Rattle.reporting.proofs.Lengths.{report_short}
use Rattle.normal.specs.Behaviour.{Same}
use Rattle.normal.specs.Clean.{IsClean}
use Rattle.normal.specs.Faults.{Faultless}
use Rattle.normal.proofs.Same.{same_sym, same_trans, same_alike}
use Rattle.normal.proofs.Carry.{carry, clean_alike}
use Rattle.normal.proofs.Unique.{is_clean_unique}
use Rattle.normal.proofs.Kept.{clean_same, clean_again, text_same}
use Rattle.normal.proofs.Accepted.{clean_read}
use Rattle.normal.proofs.Faultless.{faultless}
use Rattle.calls.specs.Promise.{TooLong, ReportPromise, CleanPromise, BothPromise}
use Rattle.calls.proofs.Promised.{kept_one, filled_fits, report_promise_determined, clean_promise_determined, both_promise_determined}
use Rattle.demands.specs.Demands.{Determined, BothDetermined, RoomEnough, BothAsSingle, OrderTotal, OrderApart, OrderGoesOn, OrdersDiffer, Verdicts, DepthIsSmall, CleanKeepsTheMoves, CleanedKeepsTheMoves, CleanIsANormalForm, CleanIsClean, TwoRuns, CleanAgainSame, CleanReported}

-- ---- demand 1

pub report_determined : (o : Order) → Determined (ReportPromise o)
report_determined = report_promise_determined

pub clean_determined : Determined CleanPromise
clean_determined = clean_promise_determined

pub both_determined : BothDetermined
both_determined = both_promise_determined

pub room_enough : RoomEnough
room_enough o s room x q h (k, inl f) = f
room_enough o s room x q h (k, inr (r, e, inl z)) = absurd z
room_enough o s room x q h (k, inr (r, e, inr l)) = absurd (omega (arith, l.longer, report_short (accepted s e) (kept_lines s e) l.is))

-- a text that is too long for one call is so for another, with the line that this one gives to 11
too_long_at : (line : ℕ) {Is : List ℕ → Type 0} {most old : ℕ} {q : Refusal} → TooLong Is most old q → TooLong Is most line (refusal because.RoomTooShort line 0)
too_long_at line l = record { eleven = refl; text = l.text; is = l.is; longer = l.longer }

-- what the single calls leave meets the promise of the call with two rooms, and only one answer with its rooms does
pub both_as_single : BothAsSingle
both_as_single s room x y clean u v c h = (done, no_report, no_clean)
  where
    only : (x u : List ℕ) (a : Result (ℕ × ℕ) Refusal) → BothPromise s room x clean u a → (c ≡ a) × (y ≡ x) × (v ≡ u)
    only x u a k = both_determined s room clean y x v u c a h k

    done : (m n : ℕ) → ReportPromise Plainest s room x (Ok m) → CleanPromise s clean u (Ok n) → (c ≡ Ok (m, n)) × (y ≡ x) × (v ≡ u)
    done m n (r, e, p) (q, f, k) = only x u (Ok (m, n)) (r, e, p, (rw (kept_one s f e) at k))

    no_report : (r : Sheet) (q : Refusal) → read_sheet s ≡ kept r → ReportPromise Plainest s room x (Err q)
        → (c ≡ Err (refusal because.RoomTooShort 1 0)) × (y ≡ room) × (v ≡ clean)
    no_report r q e (k, inl f) = absurd (kept_refused s e f)
    no_report r q e (k, inr (t, f, inl z)) = absurd z
    no_report r q e (k, inr (t, f, inr l)) = only room clean (Err (refusal because.RoomTooShort 1 0)) (refl, refl, inr (t, f, inl (too_long_at 1 l)))

    no_clean : (m : ℕ) (q : Refusal) → ReportPromise Plainest s room x (Ok m) → CleanPromise s clean u (Err q)
        → (c ≡ Err (refusal because.RoomTooShort 2 0)) × (y ≡ room) × (v ≡ clean)
    no_clean m q (r, e, p) (k, inl f) = absurd (kept_refused s e f)
    no_clean m q (r, e, p) (k, inr (t, f, inl z)) = absurd z
    no_clean m q (r, e, p) (k, inr (t, f, inr l)) =
        only room clean (Err (refusal because.RoomTooShort 2 0)) (refl, refl, inr (t, f, inr (filled_fits (rw (kept_one s e f) at p), too_long_at 2 l)))

-- ---- demand 2

pub order_total : OrderTotal
order_total = before_total

pub order_apart : OrderApart
order_apart = before_one

pub order_goes_on : OrderGoesOn
order_goes_on = before_on

pub orders_differ : OrdersDiffer
unfolding bits
orders_differ = (fewer (omega arith), omega arith)

-- what a call laid is what stands first in its room
first : (text rest : List ℕ) {n : ℕ} {x : List ℕ} → n ≡ length text → x ≡ text ++ rest → take n x ≡ text
first text rest {n} e l = ap (take n) l ∙ ap (λ (k : ℕ). take k (text ++ rest)) e ∙ take-append_seam text rest

pub verdicts : Verdicts
verdicts o s room x n (r, k, h) =
    let e = first h.text (drop n room) h.is_length h.laid in
    (r, k, accepted s k, subst (IsReport (Before o) r) (sym e) h.is)

pub depth_is_small : DepthIsSmall
depth_is_small s r d e h = depth_small (accepted s e) h

pub clean_keeps_the_moves : CleanKeepsTheMoves
clean_keeps_the_moves s x r e i short =
    let z = clean_read (accepted s e) i.clean (rw (sym i.is) short) in
    (z.0, ap read_sheet i.is ∙ z.1, alike_names z.2 ∙ i.clean.features, same_trans (clean_same i.clean) (same_alike (alike_back z.2)))

-- where `clean` is done with n, the first n bytes of the room are the clean sheet of an accepted sheet
cleaned_sheet : (s room x : List ℕ) (n : ℕ) → CleanPromise s room x (Ok n)
    → (r : Sheet) × (read_sheet s ≡ kept r) × IsClean r (take n x) × (length (take n x) ≤ 65536) × (n ≡ length (take n x))
cleaned_sheet s room x n (r, k, h) =
    let e = first h.text (drop n room) h.is_length h.laid in
    (r, k, subst (IsClean r) (sym e) h.is, rw e (omega (arith, h.fits)), h.is_length ∙ ap length (sym e))

pub cleaned_keeps_the_moves : CleanedKeepsTheMoves
cleaned_keeps_the_moves s room x n h =
    let a = cleaned_sheet s room x n h in
    let z = clean_keeps_the_moves s (take n x) a.0 a.1 a.2 a.3 in
    (a.0, z.0, a.1, z.1, z.2, z.3)

-- ---- demand 3

pub clean_is_a_normal_form : CleanIsANormalForm
clean_is_a_normal_form s t x y r q e f n i j short small = (λ z. behave z, text_same i j n)
  where
    behave : x ≡ y → Same r q
    behave z =
        let a = clean_keeps_the_moves s x r e i short in
        let b = clean_keeps_the_moves t y q f j small in
        let c : a.0 ≡ b.0 = cc in
        same_trans a.3 (same_sym (rw c b.3))

pub clean_is_clean : CleanIsClean
clean_is_clean s x r e i short =
    let z = clean_read (accepted s e) i.clean (rw (sym i.is) short) in
    let back = alike_back z.2 in
    let own : IsClean z.0 x = record { form = i.form; clean = carry (same_alike back) (alike_names back) (clean_again i.clean); is = i.is } in
    (z.0, ap read_sheet i.is ∙ z.1, faultless (clean_alike back i.clean), own, λ y j. is_clean_unique j own)

-- what `clean` laid, read again
own : (s u x : List ℕ) (m : ℕ) → CleanPromise s u x (Ok m)
    → (c : Sheet) × (read_sheet (take m x) ≡ kept c) × Faultless c × IsClean c (take m x) × ((y : List ℕ) → IsClean c y → y ≡ take m x)
own s u x m h = let a = cleaned_sheet s u x m h in clean_is_clean s (take m x) a.0 a.1 a.2 a.3

pub two_runs : TwoRuns
two_runs s t u v x y m n r q h k e f same =
    let a = cleaned_sheet s u x m h in
    let b = cleaned_sheet t v y n k in
    let c : a.0 ≡ r = cc in
    let d : b.0 ≡ q = cc in
    clean_is_a_normal_form s t (take m x) (take n y) r q e f same (rw (sym c) a.2) (rw (sym d) b.2) a.3 b.3

pub clean_again_same : CleanAgainSame
clean_again_same s u x v y m (Ok n) h k fits =
    let z = own s u x m h in
    let b = cleaned_sheet (take m x) v y n k in
    let c : b.0 ≡ z.0 = cc in
    let t : take n y ≡ take m x = z.4 (take n y) (rw (sym c) b.2) in
    let e : n ≡ m = b.4 ∙ ap length t ∙ sym (cleaned_sheet s u x m h).4 in
    (ap Ok e, ap (λ (k : ℕ). take k y) (sym e) ∙ t)
clean_again_same s u x v y m (Err q) h (k, inl e) fits = let z = own s u x m h in absurd (kept_refused (take m x) z.1 e)
clean_again_same s u x v y m (Err q) h (k, inr (r, e, inl z)) fits = absurd z
clean_again_same s u x v y m (Err q) h (k, inr (r, e, inr l)) fits =
    let z = own s u x m h in
    let b = cleaned_sheet s u x m h in
    let t : l.text ≡ take m x = z.4 l.text (rw (kept_one (take m x) z.1 e) l.is) in
    absurd (omega (arith, l.longer, ap length t, b.3, b.4, fits))

pub clean_reported : CleanReported
clean_reported o s u x v y m n h k =
    let z = own s u x m h in
    let b = verdicts o (take m x) v y n k in
    let c : b.0 ≡ z.0 = cc in
    (z.0, z.1, rw (sym c) b.3, z.2)
