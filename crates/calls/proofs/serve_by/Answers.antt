-- `serve_by`: the reader's refusal unchanged, or what the job leaves for the sheet that was read. Assumes nothing.
use Rattle.std.proofs.lemmas.Result.{err_from_is_err_and}
use Rattle.calls.proofs.Served.{read_served, refused_served}
use Rattle.calls.proofs.serve_by.Goals as goal

pub returns-in_err-counts : goal.returns-in_err-counts
returns-in_err-counts c = let p = err_from_is_err_and c.from_residual.result c.from_residual.ensures.1 in rw (p.1, p.2) (refused_served c.in_err-counts.ensures.0)

pub returns : goal.returns
returns c = read_served c.in_ok-counts.ensures.0 c.spread_out.ensures
