-- `row::is_repeat` meets its contract: a triple whose place has no mark is new. Assumes nothing.
use Rattle.std.proofs.Common.{arith}
use Rattle.sheet.proofs.Marks.{word_small, tells_new, tells_seen}
use Rattle.sheet.proofs.row.is_repeat.Goals as goal

pub offset_bounds-seen-w : goal.offset_bounds-seen-w
offset_bounds-seen-w c = omega (arith, word_small _ _ _ c.place_of-h.ensures)

pub bounds-seen-w : goal.bounds-seen-w
bounds-seen-w c = word_small _ _ _ c.place_of-h.ensures

pub offset_bounds-seen-w-then-word-b-eq0 : goal.offset_bounds-seen-w-then-word-b-eq0
offset_bounds-seen-w-then-word-b-eq0 c = omega (arith, word_small _ _ _ c.place_of-h.ensures)

pub bounds-seen-w-then-word-b-eq0 : goal.bounds-seen-w-then-word-b-eq0
bounds-seen-w-then-word-b-eq0 c = word_small _ _ _ c.place_of-h.ensures

pub returns-then-word-b-eq0 : goal.returns-then-word-b-eq0
returns-then-word-b-eq0 c = λ ms rows k. tells_new _ _ _ c.place_of-h.ensures k c.if-word-b-eq0.true

pub returns : goal.returns
returns c = λ ms rows k. tells_seen _ _ _ c.place_of-h.ensures k c.if-word-b-eq0.false (c.has_move.ensures ms rows)
