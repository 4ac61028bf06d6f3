-- `two_digits`. Each return by the law for what was read of either. Assumes nothing.
use Rattle.std.proofs.Common.{arith}
use Rattle.values.proofs.States.{digit, none_first, none_second, two_made, two_first_none, two_past}
use Rattle.values.proofs.two_digits.Goals as goal
use Rattle.values.proofs.two_digits.Goals.{else-v-ge10-via-then-v-ge10+else-v-le63, else-v-ge10-via-else-v-ge10}

pub returns-in_err-tens : goal.returns-in_err-tens
returns-in_err-tens c = let none = none_first c.args.a c.args.b c.in_err-tens.ensures in cc

pub returns-in_err-ones : goal.returns-in_err-ones
returns-in_err-ones c = let none = none_second c.args.a c.args.b c.in_ok-tens.ensures c.in_err-ones.ensures in cc

pub overflow_mul-v : goal.overflow_mul-v
overflow_mul-v c = record { fits = omega (arith, digit c.in_ok-tens.ensures) }

pub overflow_add-v : goal.overflow_add-v
overflow_add-v c = record { fits = omega (arith, digit c.in_ok-tens.ensures, digit c.in_ok-ones.ensures) }

pub returns-then-v-le63 : goal.returns-then-v-le63
returns-then-v-le63 c = two_made _ _ c.in_ok-tens.ensures c.in_ok-ones.ensures c.if-v-ge10.true c.if-v-le63.true

pub returns-else-v-ge10 : goal.returns-else-v-ge10
returns-else-v-ge10 c =
    elim c.else-v-ge10.branch [
      | else-v-ge10-via-then-v-ge10+else-v-le63 w ↦ two_past _ _ c.in_ok-tens.ensures c.in_ok-ones.ensures w.if-v-le63.false
      | else-v-ge10-via-else-v-ge10 w ↦ two_first_none _ _ c.in_ok-tens.ensures c.in_ok-ones.ensures w.if-v-ge10.false
    ]
