use mathlib.Core.Path.{◌≡◌, refl}
use Prim.Native.Nat.{ℕ, ◌+◌, ◌*◌, ◌≤◌}
use lib.ListN.{length}
use native.Mathlib.Omega.{arith}
use Rattle.splitting.proofs.Lengths.{counted_none, counted_more, counted_few, counted_all}
use borrow.Author.Rules.{rules}
use Rattle.splitting.proofs.length.guard_length.Goals as goal
use Rattle.splitting.proofs.length.guard_length.Goals.{After-splits}

pub loop-i-init : goal.loop-i-init
loop-i-init c = counted_none _ _ _ _

-- neither the sum nor what is added to it is large
small : (c : After-splits) → c.loop-i.total + c.splits.result * (length c.piece-name.result.now + 5) ≤ 70656
small c =
    let sum : ℕ = c.loop-i.total + c.splits.result * (length c.piece-name.result.now + 5) in
    let told : sum ≡ c.loop-i.total + c.splits.result * (length c.piece-name.result.now + 5) = refl in
    counted_few (counted_more c.loop-i.invariant c.splits.ensures c.loop-i-test.true c.piece-name.ensures c.if-name-gt-MOST_NAME.false told) c.requires

pub overflow_mul-total : goal.overflow_mul-total
overflow_mul-total c = let h = small (goal.at.overflow_mul-total c).After-splits in search rules

pub overflow_add-total : goal.overflow_add-total
overflow_add-total c = let h = small (goal.at.overflow_add-total c).After-splits in search rules

pub loop-i-preserved : goal.loop-i-preserved
loop-i-preserved c =
    counted_more c.loop-i.invariant c.splits.ensures c.loop-i-test.true c.piece-name.ensures
    c.if-name-gt-MOST_NAME.false (omega arith)

pub returns : goal.returns
returns c = counted_all c.loop-i.invariant c.loop-i-test.false
