-- `put_features` meets its contract: the lines laid so far are those of the features passed. Assumes nothing.
use Rattle.cleaning.proofs.Loops.{FeaturesLaid}
use Rattle.cleaning.proofs.put_features.Given as goal

abbrev pub invariant-loop-row : goal.invariant-loop-row
invariant-loop-row l = FeaturesLaid l.desk.sheet.text.now l.desk.sheet.names.now l.initial.room l.at l.row-index l.room l.next
