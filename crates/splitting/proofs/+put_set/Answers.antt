use native.Mathlib.Omega.{arith}
use Rattle.splitting.proofs.Returns.{laid_leaf, laid_from, laid_met, laid_split, chosen_small, chosen_below, below_later}
use Rattle.splitting.proofs.+put_set.Goals as goal
use Rattle.splitting.proofs.+put_set.Goals.{then-m-x, else-m-x, then-m-y, else-m-y}

pub marked-requires : goal.marked-requires
marked-requires t c = let pre = c.requires in omega (arith, chosen_small _ _ _ pre.2 pre.1 pre.0)

pub put_set-d-requires : goal.put_set-d-requires
put_set-d-requires t c =
    let pre = c.requires in (
      omega (arith, c.decreases, c.first-x.ensures.0, pre.0, c.if-m-x.false),
      (
        pre.0,
        omega (arith, c.if-m-x.false),
        omega (arith, below_later _ _ _ (chosen_below _ _ _ pre.2 pre.1 pre.0) c.first-x.ensures.0),
      ),
    )

pub marked-requires-then-m-y : goal.marked-requires-then-m-y
marked-requires-then-m-y t c = let pre = c.requires in omega (arith, chosen_small _ _ _ pre.2 pre.1 pre.0)

pub put_set-f-requires : goal.put_set-f-requires
put_set-f-requires t c =
    let pre = c.requires in (
      omega (arith, c.decreases, c.first-y.ensures.0, pre.0, c.if-m-y.false),
      (
        pre.0,
        omega (arith, c.if-m-y.false),
        omega (arith, below_later _ _ _ (chosen_below _ _ _ pre.2 pre.1 pre.0) c.first-y.ensures.0),
      ),
    )

pub returns : goal.returns
returns t c =
    λ n ends marked.
    let pre = c.requires in
    let given = c.first-x.ensures in
    let other = c.first-y.ensures in
    let below = chosen_below _ _ _ pre.2 pre.1 pre.0 in
    laid_split _ _ c.put-a.ensures c.piece.ensures c.put_bytes-b.ensures c.put-c.ensures
    (elim c.if-m-x.branch [
      | then-m-x w ↦ laid_met (laid_leaf _ _ w.put_leaf-d.ensures w.marked.ensures given.2 w.if-m-x.true (omega (arith, pre.1)) below) w.room-is w.d-is
      | else-m-x w ↦ laid_met (laid_from _ _ w.put_set-d.ensures given.2 w.if-m-x.false given.0 below) w.room-is w.d-is
    ])
    c.put-e.ensures
    (elim c.if-m-y.branch [
      | then-m-y w ↦ laid_met (laid_leaf _ _ w.put_leaf-f.ensures w.marked-then-m-y.ensures other.2 w.if-m-y.true (omega (arith, pre.1)) (omega (arith, below))) w.room-is w.f-is
      | else-m-y w ↦ laid_met (laid_from _ _ w.put_set-f.ensures other.2 w.if-m-y.false other.0 (omega (arith, below))) w.room-is w.f-is
    ])
    c.put.ensures pre.1 pre.2 ends marked
