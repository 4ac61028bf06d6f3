-- What stands on the desk once a sheet is read and spread, and what runs over it leave. A run without a room and a run in the room lay the same text,
-- because only one text is a sheet's report, and only one its clean sheet; and no report is longer than 9,545 bytes. Assumes nothing.
use Rattle.std.proofs.Common.{Err}
use mathlib.Core.Path.{◌≡◌, refl, sym, ap, ◌∙◌}
use mathlib.Core.Bool.{Bool, true, false, not, false≢true}
use mathlib.Core.List.{List, [], ◌++◌}
use mathlib.Core.Logic.{inl, inr}
use Prim.Native.Nat.{ℕ, ◌%◌, ◌≤◌, ◌<◌, min}
use native.Mathlib.Omega.{arith}
use borrow.Author.Tests.{leb-true, leb-false}
use lib.Dec.{leb}
use lib.ListN.{length, get_or, drop}
use Rattle.text.specs.Text.{limit, Wrote}
use Rattle.text.proofs.Laws.{wrote_whole, wrote_end, dry_fits, dry_too_long}
use Rattle.refusals.specs.declared.Reason.TheVariants as because
use Rattle.refusals.specs.declared.Refusal.{Refusal}
use Rattle.refusals.specs.Refusal.{refusal}
use Rattle.sheet.specs.declared.Counts.{Counts}
use Rattle.products.specs.declared.Order.{Order}
use Rattle.products.specs.declared.Order.TheVariants.{Plainest}
use Rattle.products.specs.Orders.{Before}
use Rattle.products.proofs.Ordered.{before_one}
use Rattle.sheet.specs.Sheet.{Sheet}
use Rattle.sheet.specs.Tables.{Tables, StandsFor}
use Rattle.family.specs.Rounds.{step_at, Spread}
use Rattle.family.proofs.Meaning.{spread_reaches, spread_depth}
use Rattle.reporting.specs.Report.{IsReport}
use Rattle.reporting.specs.Laying as report
use Rattle.reporting.proofs.Calls.{all_outward}
use Rattle.reporting.proofs.Determined.{report_determined}
use Rattle.reporting.proofs.Lengths.{report_short}
use Rattle.ordering.specs.Ordering.{key_at, MadeRow, Orders}
use Rattle.normal.specs.Clean.{IsClean}
use Rattle.normal.proofs.Unique.{is_clean_unique}
use Rattle.cleaning.specs.Laying.{Outs, Prepared}
use Rattle.cleaning.proofs.Made.{rows_there}
use Rattle.cleaning.proofs.Calls.{prepared}
use Rattle.calls.specs.Promise.{Filled, TooLong, Fits, clean_most}
use Rattle.calls.specs.Inside.{Comes, Long, Longer, Fitting, BothFilling, Laid}

-- ---- what stands on the desk

-- tables that stand for the sheet, and the sets that were spread
pub is_laid : {s : List ℕ} {c : Counts} {T : Tables} {sets : List (List ℕ)} {depth : ℕ} {r : Sheet} → StandsFor s T c r → Comes r
    → Spread (c.start % 64) T.valid (step_at T.moves T.move_guards) (min (min (min c.moves 256) (length T.moves)) (length T.move_guards)) sets depth
    → Laid s c T sets depth r
is_laid stands comes spread =
    let ok = comes.accepted in
    let all = rw (rows_there stands) at spread in
    record { stands = stands; comes = comes; reaches = spread_reaches stands ok all; deep = spread_depth stands ok all }

module _ {s : List ℕ} {c : Counts} {T : Tables} {sets : List (List ℕ)} {depth : ℕ} {r : Sheet} (d : Laid s c T sets depth r) where
  -- the report is laid from it
  pub for_report : report.Ready c T.moves T.move_guards T.stops T.stop_guards sets r
  for_report = record { text = s; names = T.names; valid = T.valid; stands = d.stands; accepted = d.comes.accepted; reaches = d.reaches }

  pub outward : {out : List (List ℕ)} → Outs T.moves T.move_guards sets (min (min (min c.moves 256) (length T.moves)) (length T.move_guards)) out
      → report.Outward c T.moves T.move_guards sets out
  outward {out} o = all_outward (λ q. get_or out q []) for_report o.is

  -- the clean sheet is laid from it, with the rows in order
  pub for_clean : {first order : List ℕ} {many : ℕ}
      → Orders (key_at s T.moves) (MadeRow T.moves T.move_guards sets) (min (min (min c.moves 256) (length T.moves)) (length T.move_guards)) first order many
      → Prepared s c T sets order many r
  for_clean o = prepared (record { stands = d.stands; accepted = d.comes.accepted; reaches = d.reaches }) o

-- ---- runs

pub one_clean : {r : Sheet} (x y : List ℕ) → IsClean r x → IsClean r y → x ≡ y
one_clean x y i j = is_clean_unique i j

-- a run that laid a text with the property R into the room l
abbrev Run : (List ℕ → Type 0) → List ℕ → List ℕ → ℕ → Type 0
Run R l l' n = (vs : List ℕ) × R vs × Wrote l 0 vs l' n

-- a run without a room
pub is_long : {R : List ℕ → Type 0} {l' : List ℕ} {n : ℕ} → Run R [] l' n → Long R n
is_long {l' = l'} (vs, is, w) = record { text = vs; is = is; none = l'; wrote = w }

-- it told the length n of the text that has the property: the text is longer than m, or it fits, and so does any such text where there is only one
module _ {R : List ℕ → Type 0} {n : ℕ} (first : Long R n) {m : ℕ} (b : m < limit) where
  pub too_long : (line : ℕ) → m < n → TooLong R m line (refusal because.RoomTooShort line 0)
  too_long line longer = record { eleven = refl; text = first.text; is = first.is; longer = dry_too_long first.wrote longer b }

  pub fits : n ≤ m → Fits R m
  fits h = record { text = first.text; is = first.is; fits = dry_fits first.wrote h b }

  pub all_fit : ((x y : List ℕ) → R x → R y → x ≡ y) → n ≤ m → (text : List ℕ) → R text → length text ≤ m
  all_fit one h text is = rw (one text first.text is first.is) (dry_fits first.wrote h b)

-- a run in a room that is long enough laid it
pub filled : {R : List ℕ → Type 0} {m : ℕ} → ((text : List ℕ) → R text → length text ≤ m) → {l l' : List ℕ} {k : ℕ} → m ≤ length l → Run R l l' k → Filled R m l l' k
filled short {l} z (vs, is, w) =
    let f = short vs is in
    let e = wrote_end w (omega arith) in
    record { text = vs; is = is; fits = f; is_length = e; laid = wrote_whole w (omega arith) ∙ ap (λ (i : ℕ). vs ++ drop i l) (sym e) }

-- ---- whether the report fits

module _ {s : List ℕ} {c : Counts} {T : Tables} {sets : List (List ℕ)} {depth : ℕ} {r : Sheet} (d : Laid s c T sets depth r) where
  pub never_longer : {R : ℕ → ℕ → Type 0} {most : ℕ} → 9545 ≤ most → Fitting (IsReport R r) most true
  never_longer h = record { is = λ text is. omega (arith, report_short d.comes.accepted d.comes.lines is) }

-- by the length n that a run told
pub told : (o : Order) {r : Sheet} {n most : ℕ} (b : Bool) → Long (IsReport (Before o) r) n → most < limit → leb n most ≡ b → Fitting (IsReport (Before o) r) most b
told o {n = n} {most} true first small e = record { is = all_fit first small (report_determined (before_one o)) (leb-true n most e) }
told o {n = n} {most} false first small e = record { is = λ line. too_long first small line (leb-false n most e) }

pub fit : {R : List ℕ → Type 0} {m : ℕ} {b : Bool} → Fitting R m b → not b ≡ false → (text : List ℕ) → R text → length text ≤ m
fit {b = true} f e = f.is
fit {b = false} f e = absurd (false≢true (sym e))

pub unfit : {R : List ℕ → Type 0} {m : ℕ} {b : Bool} → Fitting R m b → not b ≡ true → (line : ℕ) → TooLong R m line (refusal because.RoomTooShort line 0)
unfit {b = true} f e = absurd (false≢true e)
unfit {b = false} f e = f.is

-- ---- both texts, each in its room

pub report_long : {r : Sheet} {room second : List ℕ} {q : Refusal} → TooLong (IsReport (Before Plainest) r) (length room) 1 q → BothFilling r room room second second (Err q)
report_long h = record { is = (refl, refl, inl h) }

-- the clean sheet does not fit, and the line goes by the report
pub both_long : {r : Sheet} {room second : List ℕ} {line : ℕ} → Longer (IsReport (Before Plainest) r) (length room) line
    → ((line : ℕ) → TooLong (IsClean r) (clean_most second) line (refusal because.RoomTooShort line 0)) → BothFilling r room room second second (Err (refusal because.RoomTooShort line 0))
both_long (inl (e, long)) clean = rw e (record { is = (refl, refl, inl long) })
both_long (inr (e, fit)) clean = rw e (record { is = (refl, refl, inr (fit, clean 2)) })
