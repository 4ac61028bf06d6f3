-- `find_name` meets its contract. The loop's invariant: the rows that are left give what all give; it falls by a row a turn. Assumes nothing.
use Rattle.std.proofs.Common.{min}
use Rattle.guards.proofs.Finding.{Left}
use Rattle.guards.proofs.find_name.Given as goal

abbrev pub invariant-loop-i : goal.invariant-loop-i
invariant-loop-i l = Left l.names.text.now l.names.rows.now l.name (min l.names.count 10) l.i
