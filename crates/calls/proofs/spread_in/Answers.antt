-- `spread_in`: the sets that were spread and the out sets lie on the desk. Assumes nothing.
use Rattle.std.proofs.Common.{replicate, arith}
use Rattle.std.proofs.lemmas.List.{length-replicate}
use Rattle.cleaning.proofs.Calls.{gathered_outs}
use Rattle.calls.proofs.Desk.{is_laid}
use Rattle.calls.proofs.spread_in.Goals as goal

pub invariant_of-lay : goal.invariant_of-lay
invariant_of-lay g c =
    record {
      outs =
          gathered_outs {old = replicate g.row.ROWS (replicate 16 0)} c.all_out.ensures.1 (simp length-replicate)
          (simp length-replicate (omega (arith, c.spread_low-depth.ensures.0)));
    }

pub returns : goal.returns
returns g c = λ r stands ok. c.lay.ensures r (is_laid stands ok c.spread_low-depth.ensures.1)
