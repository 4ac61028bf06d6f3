use Rattle.std.proofs.Common.{ℕ, ◌<◌, get_or, arith, eqb-true, rules, Fits, w64}
use Rattle.std.proofs.lemmas.Bool.{eqb-false}
use Rattle.members.proofs.Joined.{joined_none, joined_word, joined_empty, joined_some}
use Rattle.members.proofs.is_empty.Goals as goal

pub loop-word-init : goal.loop-word-init
loop-word-init c = joined_none _ _ _ (omega arith) (omega arith)

pub loop-word-preserved : goal.loop-word-preserved
loop-word-preserved c = joined_word c.loop-word.invariant

pub returns : goal.returns
returns c =
    let h = c.loop-word.invariant in
    let word : (k : ℕ) → k < 16 → Fits w64 (get_or c.args.s k 0) = λ k lk. search rules in (
      λ e. joined_empty h (omega arith) (eqb-true _ _ e),
      λ e. joined_some h (omega arith) (λ k lk. (word k lk).fits) (eqb-false _ _ e),
    )
