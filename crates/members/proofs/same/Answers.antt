use Rattle.std.proofs.Common.{eqb-true, rules}
use Rattle.std.proofs.lemmas.Bool.{eqb-false}
use Rattle.members.proofs.Joined.{joined_word, joined_same, joined_other}
use Rattle.members.proofs.same.Goals as goal

pub loop-i-preserved : goal.loop-i-preserved
loop-i-preserved c = joined_word c.loop-i.invariant

pub returns : goal.returns
returns c =
    let h = c.loop-i.invariant in
    (λ e. joined_same h (search rules) (search rules) c.loop-i-test.false (eqb-true _ _ e), λ e. joined_other h (eqb-false _ _ e))
