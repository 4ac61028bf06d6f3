-- `start`: refused as the reader refuses, then by 12; or the box stands at the start. Assumes nothing.
use Rattle.std.proofs.Common.{inl, refl, arith}
use Rattle.std.proofs.lemmas.Result.{err_from_is_err_and}
use Rattle.running.proofs.Meaning.{set_up_refused, set_up_done}
use Rattle.running.proofs.start.Goals as goal

pub returns-in_err-c : goal.returns-in_err-c
returns-in_err-c c = let p = err_from_is_err_and c.from_residual.result c.from_residual.ensures.1 in rw (p.1, p.2) (refl, inl c.in_err-c.ensures.3.0)

pub returns-then-not-has : goal.returns-then-not-has
returns-then-not-has c = rw c.refuse.ensures (set_up_refused _ c.in_ok-c.ensures c.has.ensures c.if-not-has.true-raw)

pub returns : goal.returns
returns c = set_up_done _ c.in_ok-c.ensures c.has.ensures c.if-not-has.false-raw c.with_state-place.ensures (omega arith)
