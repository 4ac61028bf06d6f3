-- `clean_length`: a run without a room. Assumes nothing.
use Rattle.calls.proofs.Desk.{is_long}
use Rattle.calls.proofs.clean_length.Goals as goal

pub put_clean-requires : goal.put_clean-requires
put_clean-requires c = record { rows_within = c.requires; outs_laid = c.args.spread.now.outs }

pub returns : goal.returns
returns c = λ t h r d. is_long (c.put_clean.ensures t h r d)
