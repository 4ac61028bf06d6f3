-- `put_guard` meets its contract: the set cut down to the first features' products, with no choice made yet. In a full room nothing is laid, and the
-- place is behind as many bytes as are counted. Assumes nothing.
use Rattle.std.proofs.Common.{arith, rules}
use Rattle.splitting.proofs.Returns.{laid_leaf, laid_from, laid_whole}
use Rattle.splitting.proofs.Lengths.{laid_counted}
use Rattle.splitting.proofs.put_guard.Goals as goal

pub returns-in-Some : goal.returns-in-Some
returns-in-Some c =
    let good = c.well_formed in
    laid_whole _ _ _ _ _ _ _
    (laid_counted _ _ (c.in-Some.ensures) c.place_behind.ensures c.if-room-at.true (search rules) c.lay_table-m.ensures.1)
    c.min-n.ensures c.both-few.ensures c.all.ensures

pub returns-then-m-j : goal.returns-then-m-j
returns-then-m-j c =
    laid_whole _ _ _ _ _ _ _
    (laid_leaf _ _ c.put_leaf.ensures c.marked.ensures c.first-j.ensures.2 c.if-m-j.true (omega arith) (omega arith) _ c.lay_table-m.ensures.1)
    c.min-n.ensures c.both-few.ensures c.all.ensures

pub returns : goal.returns
returns c =
    laid_whole _ _ _ _ _ _ _
    (laid_from _ _ c.put_set.ensures c.first-j.ensures.2 c.if-m-j.false (omega arith) (omega arith) _ c.lay_table-m.ensures.1)
    c.min-n.ensures c.both-few.ensures c.all.ensures
