-- `serve_in`: the tables are blank, and the text has been told to be short enough for them. Assumes nothing.
use Rattle.std.proofs.Common.{arith}
use Rattle.std.proofs.lemmas.List.{length-replicate}
use Rattle.calls.proofs.serve_in.Goals as goal

pub serve_by-requires-clause-tables_blank : goal.serve_by-requires-clause-tables_blank
serve_by-requires-clause-tables_blank g c = simp length-replicate

pub serve_by-requires-clause-tables_suffice : goal.serve_by-requires-clause-tables_suffice
serve_by-requires-clause-tables_suffice g c = simp length-replicate (omega arith, omega arith, omega arith, omega arith)
