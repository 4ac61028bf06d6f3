-- A report has at most 9,545 bytes: 25 for each of 256 moves, 26 for each of 64 states, 23 for each of 64 stop lines, 9 for the depth. The one idea:
-- no row is longer, whatever its verdict, since no number in it has more digits than its bound. Assumes nothing.
use Rattle.std.proofs.Common.{Some, None}
use mathlib.Core.List.{List, [], ◌∷◌}
use Prim.Native.Nat.{ℕ, ◌*◌, ◌≤◌}
use native.Mathlib.Omega.{arith}
use lib.ListN.{length, length-append}
use Rattle.text.specs.Text.{decimal}
use Rattle.text.proofs.Laws.{decimal_places}
use Rattle.sheet.specs.Sheet.{Move, Stop, Sheet}
use Rattle.sheet.specs.Accepted.{Accepted, GoodStops}
use Rattle.sheet.specs.Inside.{Apart}
use Rattle.sheet.specs.Numbered.{MovesTo, StopsTo, LinesTo}
use Rattle.sheet.proofs.Apart.{stops_few_lem}
use Rattle.family.specs.Ways.{Valid, Depth}
use Rattle.family.proofs.Meaning.{product_small, depth_small}
use Rattle.verdicts.specs.declared.Verdict.{Verdict}
use Rattle.verdicts.specs.declared.Verdict.TheVariants.{Dead, False, Must, May}
use Rattle.verdicts.specs.declared.StateVerdict.{StateVerdict}
use Rattle.verdicts.specs.declared.StateVerdict.TheVariants.{Unreached, End, Hidden, Live}
use Rattle.verdicts.specs.declared.StopVerdict.{StopVerdict}
use Rattle.verdicts.specs.declared.StopVerdict.TheVariants.{Untrue, Idle, True}
use Rattle.verdicts.specs.Verdicts.{JudgedAs, StateAs, StopAs, Counted, nobody, counts, passes}
use Rattle.reporting.specs.Report.{found_text, word, made_of, missed_of, state_word, hidden_of, stop_word, untrue_of, move_row, state_row, stop_row, depth_row, MoveRows, StateRows, StopRows, IsReport}

-- ---- fields

line_short : {n : ℕ} → n ≤ 65537 → length (decimal n) ≤ 5
line_short {n} l = decimal_places n 4 (omega arith)

product_short : {r : Sheet} {p : ℕ} → Accepted r → Valid r p → length (decimal p) ≤ 4
product_short {p = p} ok v = decimal_places p 3 (omega (arith, product_small ok v))

-- no more are counted than there are
counted_most : {P : ℕ → Type 0} {n k : ℕ} → Counted P n k → k ≤ n
counted_most nobody = omega arith
counted_most (counts h c) = omega (arith, counted_most c)
counted_most (passes h c) = omega (arith, counted_most c)

-- the stops of an accepted sheet are for states below 64, no state twice
good_apart : (n : ℕ) (ds : List Stop) → GoodStops n ds → Apart ds
good_apart n [] g = tt
good_apart n (d ∷ ds) g = (omega (arith, g.0.state), g.1, good_apart n ds g.2)

-- ---- rows, of an accepted sheet

depth_row_lem : {r : Sheet} {d : ℕ} → Accepted r → Depth r d → length (depth_row d) ≤ 9
unfolding depth_row
depth_row_lem {d = d} ok h = simp length-append (omega (arith, decimal_places d 1 (omega (arith, depth_small ok h))))

module _ (R : ℕ → ℕ → Type 0) {r : Sheet} (ok : Accepted r) where
  move_row_lem : (m : Move) (v : Verdict) → m.line ≤ 65537 → JudgedAs R r m v → length (move_row m.line v) ≤ 25
  unfolding move_row word found_text made_of missed_of
  move_row_lem m (Dead (Some p)) l j = simp length-append (omega (arith, line_short l, product_short ok j.1.is.valid))
  move_row_lem m (Dead None) l j = simp length-append (omega (arith, line_short l))
  move_row_lem m (False p) l j = simp length-append (omega (arith, line_short l, product_short ok j.1.is.valid))
  move_row_lem m (Must p) l j = simp length-append (omega (arith, line_short l, product_short ok j.1.is.valid))
  move_row_lem m (May p q) l j = simp length-append (omega (arith, line_short l, product_short ok j.0.is.valid, product_short ok j.1.is.valid))

  state_row_lem : (q k : ℕ) (v : StateVerdict) → length (decimal q) ≤ 2 → length (decimal k) ≤ 4 → StateAs R r q v → length (state_row q v k) ≤ 26
  unfolding state_row state_word found_text hidden_of
  state_row_lem q k Unreached l c j = simp length-append (omega arith)
  state_row_lem q k End l c j = simp length-append (omega arith)
  state_row_lem q k (Hidden p) l c j = simp length-append (omega (arith, product_short ok j.1.is.valid))
  state_row_lem q k Live l c j = simp length-append (omega arith)

  stop_row_lem : (d : Stop) (v : StopVerdict) → d.line ≤ 65537 → StopAs R r d v → length (stop_row d.line v) ≤ 23
  unfolding stop_row stop_word found_text untrue_of
  stop_row_lem d (Untrue p) l j = simp length-append (omega (arith, line_short l, product_short ok j.is.declares.valid))
  stop_row_lem d Idle l j = simp length-append (omega (arith, line_short l))
  stop_row_lem d True l j = simp length-append (omega (arith, line_short l))

  move_rows : {ms : List Move} {text : List ℕ} → MovesTo 65537 ms → MoveRows R r ms text → length text ≤ 25 * length ms
  move_rows l MoveRows.none = omega arith
  move_rows l (MoveRows.next {m} v j rows) = simp length-append (omega (arith, move_rows l.1 rows, move_row_lem m v l.0 j))

  state_rows : {n : ℕ} {text : List ℕ} → n ≤ 64 → StateRows R r n text → length text ≤ 26 * n
  state_rows l StateRows.none = omega arith
  state_rows l (StateRows.named {n} {k} v i j c rows) =
      simp length-append (omega (arith, state_rows (omega arith) rows, state_row_lem n k v (decimal_places n 1 (omega arith)) (decimal_places k 3 (omega (arith, counted_most c))) j))
  state_rows l (StateRows.other o rows) = omega (arith, state_rows (omega arith) rows)

  stop_rows : {ds : List Stop} {text : List ℕ} → StopsTo 65537 ds → StopRows R r ds text → length text ≤ 23 * length ds
  stop_rows l StopRows.none = omega arith
  stop_rows l (StopRows.next {d} v j rows) = simp length-append (omega (arith, stop_rows l.1 rows, stop_row_lem d v l.0 j))

-- a report has at most 9,545 bytes
pub report_short : {R : ℕ → ℕ → Type 0} {r : Sheet} {text : List ℕ} → Accepted r → LinesTo 65537 r → IsReport R r text → length text ≤ 9545
report_short {R} {r} ok l i =
    rw i.is
    (simp length-append
    (omega (
      arith,
      move_rows R ok l.moves i.move_rows,
      state_rows R ok (omega arith) i.state_rows,
      stop_rows R ok l.stops i.stop_rows,
      depth_row_lem ok i.is_depth,
      ok.few_moves,
      stops_few_lem r.stops (good_apart (length r.features) r.stops ok.stops),
    )))
