-- `picked` meets its contract: the laws of `&` and `^` by bits. Assumes nothing.
use Rattle.std.proofs.Common.{arith}
use Rattle.products.proofs.Bits.{bit_and_lem, bit_without}
use Rattle.members.proofs.picked.Goals as goal

pub returns-then-out : goal.returns-then-out
returns-then-out c = rw c.if-out.true (λ k. let e = bit_without c.args.a c.args.b k in (λ o. (omega arith, omega arith), λ x y. omega arith))

pub returns : goal.returns
returns c = rw c.if-out.false (λ k. let e = bit_and_lem c.args.a c.args.b k in (λ o. (omega arith, omega arith), λ x y. omega arith))
