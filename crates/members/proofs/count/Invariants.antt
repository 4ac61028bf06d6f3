-- `count` meets its contract. The loop's invariant: n is the count of the products in the words passed. Assumes nothing.
use Rattle.std.proofs.Common.{◌≡◌, ◌*◌}
use Rattle.products.specs.Sets.{count_to}
use Rattle.members.proofs.count.Given as goal

abbrev pub invariant-loop-word : goal.invariant-loop-word
invariant-loop-word l = l.n ≡ count_to l.fn.s (l.word-index * 64)
