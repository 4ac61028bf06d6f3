-- What a refusal of a call can be: the table's numbers, each given to a sheet of a few lines, and never the row "0, done, 0"; what stands at its place; and
-- that an input's first 65,537 bytes are enough. A promise speaks of the text by `read_sheet` alone, so each statement is one of `read_sheet`; what holds for both calls with
-- one room is proved once, for any text that a call may lay. Assumes nothing.
use Rattle.std.proofs.Common.{Result, Ok, Err}
use mathlib.Core.List.{List, [], ◌∷◌, ◌++◌}
use mathlib.Core.Logic.{inl, inr, ⊎_elim}
use mathlib.Core.Path.{◌≡◌, refl, sym, ap, ◌∙◌}
use Prim.Native.Nat.{ℕ, zero, suc, ◌-◌, ◌≤◌, ◌<◌}
use native.Mathlib.Nat.{eq-zero-or-pos}
use native.Mathlib.Omega.{arith}
use lib.ListN.{length, take, replicate, length-replicate, length-append, length-take}
use lib.Seq.{take_all}
use Rattle.fields.specs.Bytes.{same_bytes, all_name_bytes, is_name, is_action, read_state, run, after_run}
use Rattle.fields.specs.Cutting.{cut, join, close}
use Rattle.guards.specs.Guard.{holds}
use Rattle.guards.specs.Reading.{number, parts, read_guard, read_whole}
use Rattle.refusals.specs.declared.Reason.{Reason}
use Rattle.refusals.specs.declared.Reason.TheVariants as because
use Rattle.refusals.specs.declared.Refusal.{Refusal}
use Rattle.refusals.specs.Refusal.{number_of, refusal}
use Rattle.refusals.proofs.Numbers.{no_done_row, one_refusal}
use Rattle.products.specs.declared.Order.{Order}
use Rattle.products.specs.Orders.{Before}
use Rattle.sheet.specs.Sheet.{Sheet, names}
use Rattle.sheet.specs.Spelling.{joined, text_of}
use Rattle.sheet.specs.Reading.{kept, refused, fts_line, feature_line, valid_line, start_line, read_line, ended, read_lines, last, read_sheet}
use Rattle.sheet.specs.Reading as reading
use Rattle.sheet.proofs.Accepted.{refused_number, kept_refused}
use Rattle.sheet.proofs.Whole.{read_long, read_empty}
use Rattle.sheet.proofs.Places.{refused_byte, refused_field, refused_nowhere, refused_there, refused_place}
use Rattle.sheet.proofs.OnePlace.{byte_place, field_place}
use Rattle.reporting.specs.Report.{depth_row, IsReport}
use Rattle.normal.specs.Clean.{IsClean}
use Rattle.calls.specs.Promise.{TooLong, OneText, nothing, ReportPromise, clean_most, CleanPromise, BothPromise}
use Rattle.demands.specs.Printed.{onto, printed}
use Rattle.demands.specs.Demands.{Refusals, BothRefusals, Told, BothTold, TableRefuses, RefusalsGiven, PlaceOfByte, PlaceOfField, NoPlace, PlaceWithin, PlaceDetermined, ElevenGiven, Cut, BothCut}
use Rattle.demands.proofs.Demands.{report_determined, clean_determined, both_determined}

-- ---- the numbers

-- the number is one of the table's
abbrev Numbered : Refusal → Type 0
Numbered q = (1 ≤ q.number) × (q.number ≤ 11)

read_numbered : (s : List ℕ) {q : Refusal} → read_sheet s ≡ refused q → Numbered q
read_numbered s e = let z = refused_number s e in (z.0, omega (arith, z.1))

long_numbered : {Is : List ℕ → Type 0} {most line : ℕ} {q : Refusal} → TooLong Is most line q → Numbered q
long_numbered l = let e = ap (λ (q : Refusal). q.number) l.eleven in (omega arith, omega arith)

-- ---- a longer input

pub cut_same : (s : List ℕ) → read_sheet (take 65537 s) ≡ read_sheet s
cut_same s =
    ⊎_elim (λ (z : length s - 65537 ≡ 0). ap read_sheet (take_all 65537 s (omega arith)))
    (λ l. read_long (take 65537 s) (omega (arith, length-take 65537 s)) ∙ sym (read_long s (omega arith))) (eq-zero-or-pos (length s - 65537))

-- ---- a call with one room: `Is` says which text it lays, and `most` how long that may be in a room; an accepted sheet it refuses by 11 only
module _ (Is : Sheet → List ℕ → Type 0) (most : List ℕ → ℕ) where
  abbrev Call : List ℕ → List ℕ → List ℕ → Result ℕ Refusal → Type 0
  Call s room x a = OneText nothing Is (most room) s room x a

  one_refusals : Refusals Call
  one_refusals s room x q (k, inl e) = read_numbered s e
  one_refusals s room x q (k, inr (r, e, inl z)) = absurd z
  one_refusals s room x q (k, inr (r, e, inr l)) = long_numbered l

  one_told : Told Call
  one_told s room x t other y (Ok m) (Ok n) h k row e = ap Ok e
  one_told s room x t other y (Ok m) (Err q) h k row e = absurd (no_done_row q (one_refusals t other y q k).0 (sym row))
  one_told s room x t other y (Err p) (Ok n) h k row e = absurd (no_done_row p (one_refusals s room x p h).0 row)
  one_told s room x t other y (Err p) (Err q) h k row e = ap Err (one_refusal p q row)

  -- in a room without a byte every text is too long
  one_eleven : ((r : Sheet) (x : List ℕ) → Is r x → most [] < length x) → (s x : List ℕ) (r : Sheet) → read_sheet s ≡ kept r
      → (a : Result ℕ Refusal) → Call s [] x a → a ≡ Err (refusal because.RoomTooShort 0 0)
  one_eleven long s x r e (Ok n) (t, f, h) = absurd (omega (arith, long t h.text h.is, h.fits))
  one_eleven long s x r e (Err q) (k, inl f) = absurd (kept_refused s e f)
  one_eleven long s x r e (Err q) (k, inr (t, f, inl z)) = absurd z
  one_eleven long s x r e (Err q) (k, inr (t, f, inr l)) = ap Err l.eleven

  -- one sheet's promise is another's, where both read alike
  one_as : (s t : List ℕ) → read_sheet s ≡ read_sheet t → (room x : List ℕ) (a : Result ℕ Refusal) → Call s room x a → Call t room x a
  one_as s t e room x (Ok n) (r, f, h) = (r, sym e ∙ f, h)
  one_as s t e room x (Err q) (k, inl f) = (k, inl (sym e ∙ f))
  one_as s t e room x (Err q) (k, inr (r, f, h)) = (k, inr (r, sym e ∙ f, h))

  one_cut : Cut Call
  one_cut s room x a = (one_as (take 65537 s) s (cut_same s) room x a, one_as s (take 65537 s) (sym (cut_same s)) room x a)

pub report_refusals : (o : Order) → Refusals (ReportPromise o)
report_refusals o = one_refusals (IsReport (Before o)) length

pub clean_refusals : Refusals CleanPromise
clean_refusals = one_refusals IsClean clean_most

pub report_told : (o : Order) → Told (ReportPromise o)
report_told o = one_told (IsReport (Before o)) length

pub clean_told : Told CleanPromise
clean_told = one_told IsClean clean_most

pub report_cut : (o : Order) → Cut (ReportPromise o)
report_cut o = one_cut (IsReport (Before o)) length

pub clean_cut : Cut CleanPromise
clean_cut = one_cut IsClean clean_most

-- ---- the call with two rooms

pub both_refusals : BothRefusals
both_refusals s room x clean u q (k, j, inl e) = read_numbered s e
both_refusals s room x clean u q (k, j, inr (r, e, inl l)) = long_numbered l
both_refusals s room x clean u q (k, j, inr (r, e, inr (f, l))) = long_numbered l

pub both_told : BothTold
both_told s room x clean u t other y second v (Ok (m, n)) (Ok (i, j)) h k row e = ap Ok e
both_told s room x clean u t other y second v (Ok (m, n)) (Err q) h k row e = absurd (no_done_row q (both_refusals t other y second v q k).0 (sym row))
both_told s room x clean u t other y second v (Err p) (Ok (i, j)) h k row e = absurd (no_done_row p (both_refusals s room x clean u p h).0 row)
both_told s room x clean u t other y second v (Err p) (Err q) h k row e = ap Err (one_refusal p q row)

both_as : (s t : List ℕ) → read_sheet s ≡ read_sheet t → (room x clean u : List ℕ) (a : Result (ℕ × ℕ) Refusal) → BothPromise s room x clean u a → BothPromise t room x clean u a
both_as s t e room x clean u (Ok (m, n)) (r, f, h, k) = (r, sym e ∙ f, h, k)
both_as s t e room x clean u (Err q) (k, j, inl f) = (k, j, inl (sym e ∙ f))
both_as s t e room x clean u (Err q) (k, j, inr (r, f, h)) = (k, j, inr (r, sym e ∙ f, h))

pub both_cut : BothCut
both_cut s room x clean u a = (both_as (take 65537 s) s (cut_same s) room x clean u a, both_as s (take 65537 s) (sym (cut_same s)) room x clean u a)

-- ---- a sheet for each

abbrev Given : Reason → Type 0
Given e = (s : List ℕ) × (n p : ℕ) × (read_sheet s ≡ refused (refusal e n p))

long_given : Given because.SheetTooLong
long_given = (replicate 65537 0, 0, 0, read_long (replicate 65537 0) (omega (arith, length-replicate {A = ℕ} 65537 0)))

-- the text of these lines is refused so, by computing
lines_given : (Given because.BadLine × Given because.BadField) × (Given because.BadGuard × Given because.UndeclaredName)
    × (Given because.NestedTooDeep × Given because.TooManyLines) × (Given because.Repeat × Given because.NoValidProduct)
unfolding onto printed cut same_bytes all_name_bytes is_name is_action read_state run after_run number parts read_guard read_whole holds names fts_line feature_line valid_line start_line read_line reading.none ended read_lines last read_sheet
lines_given = (
  ((printed ("" ∷ []), 1, 0, refl), (printed ("fts\t1" ∷ "feature\t2g" ∷ []), 2, 9, refl)),
  ((printed ("fts\t1" ∷ "valid\t" ∷ []), 2, 7, refl), (printed ("fts\t1" ∷ "valid\td" ∷ []), 2, 7, refl)),
  (
    (printed ("fts\t1" ∷ "valid\t!!!!!!!!!!!!!!!!!!!!!!!!!!!!!!!!!1" ∷ []), 2, 39, refl),
    (
      printed
          ("fts\t1" ∷ "feature\ta" ∷ "feature\tb" ∷ "feature\tc" ∷ "feature\td" ∷ "feature\te" ∷ "feature\tf" ∷ "feature\tg" ∷ "feature\th" ∷ "feature\ti"
          ∷ "feature\tj" ∷ "feature\tk" ∷ []),
      12,
      0,
      refl,
    ),
  ),
  ((printed ("fts\t1" ∷ "feature\ta" ∷ "feature\ta" ∷ []), 3, 9, refl), (printed ("fts\t1" ∷ "valid\t0" ∷ "start\t0" ∷ []), 2, 0, refl)),
)

given : (e : ℕ) → 1 ≤ e → e ≤ 10 → (r : Reason) × (number_of r ≡ e) × Given r
given zero l h = absurd (omega arith)
given (suc zero) l h = (because.SheetTooLong, refl, long_given)
given (suc (suc zero)) l h = (because.NoLastLineEnd, refl, ([], 0, 0, read_empty [] refl))
given (suc (suc (suc zero))) l h = (because.BadLine, refl, lines_given.0.0)
given (suc (suc (suc (suc zero)))) l h = (because.BadField, refl, lines_given.0.1)
given (suc (suc (suc (suc (suc zero))))) l h = (because.BadGuard, refl, lines_given.1.0)
given (suc (suc (suc (suc (suc (suc zero)))))) l h = (because.UndeclaredName, refl, lines_given.1.1)
given (suc (suc (suc (suc (suc (suc (suc zero))))))) l h = (because.NestedTooDeep, refl, lines_given.2.0)
given (suc (suc (suc (suc (suc (suc (suc (suc zero)))))))) l h = (because.TooManyLines, refl, lines_given.2.1)
given (suc (suc (suc (suc (suc (suc (suc (suc (suc zero))))))))) l h = (because.Repeat, refl, lines_given.3.0)
given (suc (suc (suc (suc (suc (suc (suc (suc (suc (suc zero)))))))))) l h = (because.NoValidProduct, refl, lines_given.3.1)
given (suc (suc (suc (suc (suc (suc (suc (suc (suc (suc (suc e))))))))))) l h = absurd (omega arith)

pub refusals_given : RefusalsGiven
refusals_given e l h = let (r, k, (s, n, p, f)) = given e l h in (s, refusal r n p, k, f)

pub place_of_byte : PlaceOfByte
place_of_byte s q e = refused_byte s e

pub place_of_field : PlaceOfField
place_of_field s q e = refused_field s e

pub no_place : NoPlace
no_place s q e = refused_nowhere s e

pub place_within : PlaceWithin
place_within s q e = (refused_there s e, refused_place s e)

pub place_determined : PlaceDetermined
place_determined s q r n = (byte_place s n, λ e. field_place s e n)

pub table_refuses : TableRefuses
table_refuses s q f = (
  λ o room x a k. report_determined o s room x room a (Err q) k (refl, inl f),
  λ room x a k. clean_determined s room x room a (Err q) k (refl, inl f),
  λ room x clean u a k. both_determined s room clean x room u clean a (Err q) k (refl, refl, inl f),
)

-- ---- 11, in a room without a byte: neither text is empty

report_long : {R : ℕ → ℕ → Type 0} {r : Sheet} {x : List ℕ} → IsReport R r x → 0 < length x
unfolding depth_row
report_long i =
    let e = ap length i.is in
    let a = length-append i.moves (i.states ++ (i.stops ++ depth_row i.depth)) in
    let b = length-append i.states (i.stops ++ depth_row i.depth) in
    let c = length-append i.stops (depth_row i.depth) in
    omega arith

clean_long : {r : Sheet} {x : List ℕ} → IsClean r x → 0 < length x
unfolding text_of joined join close
clean_long i = let e = ap length i.is in omega arith

both_eleven : (s x clean u : List ℕ) (r : Sheet) → read_sheet s ≡ kept r → (a : Result (ℕ × ℕ) Refusal) → BothPromise s [] x clean u a → a ≡ Err (refusal because.RoomTooShort 1 0)
both_eleven s x clean u r e (Ok (m, n)) (t, f, h, k) = absurd (omega (arith, report_long h.is, h.fits))
both_eleven s x clean u r e (Err q) (k, j, inl f) = absurd (kept_refused s e f)
both_eleven s x clean u r e (Err q) (k, j, inr (t, f, inl l)) = ap Err l.eleven
both_eleven s x clean u r e (Err q) (k, j, inr (t, f, inr (h, l))) = absurd (omega (arith, report_long h.is, h.fits))

pub eleven_given : ElevenGiven
eleven_given s x clean u r e = (
  λ o. one_eleven (IsReport (Before o)) length (λ r y i. report_long i) s x r e,
  one_eleven IsClean clean_most (λ r y i. clean_long i) s x r e,
  both_eleven s x clean u r e,
)
