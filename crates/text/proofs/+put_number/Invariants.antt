-- `put_number`: the digits before the last are those of n / 10, and the last one follows them. The measure is n. Assumes nothing.
use Rattle.text.proofs.+put_number.Given as goal

abbrev pub decreases-put_number : goal.decreases-put_number
decreases-put_number l = l.n
