-- `put_set`: both halves, between the feature's name and the marks of a choice; each is a leaf where the table marks no feature that is left, else a set
-- that is split on a later one, and the two ways meet (`laid_met`). The measure is how many features are left of ten. Assumes nothing.
use Prim.Native.Nat.{◌-◌}
use Rattle.splitting.proofs.+put_set.Given as goal

abbrev pub decreases-put_set : goal.decreases-put_set
decreases-put_set l = 10 - l.j
