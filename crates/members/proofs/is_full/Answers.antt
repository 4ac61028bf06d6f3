-- `is_full` meets its contract: what it says to be the same as the full set. Assumes nothing.
use Rattle.std.proofs.Common.{ℕ, ◌<◌, get_or, rules, Fits, w64}
use Rattle.members.proofs.Joined.{full_is, lacks_is}
use Rattle.members.proofs.is_full.Goals as goal

pub returns : goal.returns
returns c =
    let word : (k : ℕ) → k < 16 → Fits w64 (get_or c.args.s k 0) = λ k lk. search rules in
    (λ e. full_is (c.same.ensures.0 e), λ e. lacks_is (search rules) (λ k lk. (word k lk).fits) (c.same.ensures.1 e))
