-- `is_name`. Each return by the law for the test that led to it. Assumes nothing.
use Rattle.std.proofs.Common.{sym, ◌∙◌, arith}
use Rattle.values.proofs.Names.{name_none, name_first, name_long, name_good}
use Rattle.values.proofs.is_name.Goals as goal

pub returns-then-s-eq0 : goal.returns-then-s-eq0
returns-then-s-eq0 c = name_none _ (omega arith)

pub returns-then-not-is_letter : goal.returns-then-not-is_letter
returns-then-not-is_letter c = name_first c.args.s.now (sym c.is_letter.ensures ∙ c.if-not-is_letter.true)

pub returns-then-s-gt12 : goal.returns-then-s-gt12
returns-then-s-gt12 c = name_long _ (omega arith)

pub returns : goal.returns
returns c = name_good _ c.all_name_bytes.ensures (omega arith) (omega arith) (sym c.is_letter.ensures ∙ c.if-not-is_letter.false)
