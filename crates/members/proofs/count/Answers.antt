use Rattle.std.proofs.Common.{◌≡◌, ◌*◌, refl, arith, get_or, rules, Fits, w64}
use Rattle.std.proofs.lemmas.Nat.{ones-le}
use Rattle.products.specs.Sets.{count_to}
use Rattle.products.proofs.Laws.{count_word, count_le}
use Rattle.members.proofs.count.Goals as goal

pub loop-word-init : goal.loop-word-init
unfolding count_to
loop-word-init c = refl

pub overflow_add-n : goal.overflow_add-n
overflow_add-n c =
    let i = c.loop-word.word-index in
    let word : Fits w64 (get_or c.args.s i 0) = search rules in
    omega (arith, ones-le 64 _ word.fits, count_le c.args.s (i * 64))

pub loop-word-preserved : goal.loop-word-preserved
loop-word-preserved c =
    let i = c.loop-word.word-index in
    let word : Fits w64 (get_or c.args.s i 0) = search rules in
    omega (arith, count_word c.args.s i word.fits)

pub returns : goal.returns
returns c = let e : c.loop-word.word-index ≡ 16 = omega arith in rw e at c.loop-word.invariant
