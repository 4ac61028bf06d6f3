-- `stands_at` meets its contract: the part of the text by the tests that led to it. Assumes nothing.
use Rattle.std.proofs.Common.{◌∙◌, le-leb}
use Rattle.fields.specs.Bytes.{part, piece_of}
use Rattle.guards.proofs.Finding.{outside}
use Rattle.guards.proofs.stands_at.Goals as goal

pub returns-then-upto-from : goal.returns-then-upto-from
returns-then-upto-from c = c.is_empty.ensures ∙ outside _ _ _ _ c.then-upto-from.either

pub returns : goal.returns
unfolding piece_of part
returns c = rw (le-leb _ _ c.if-upto-from.false, le-leb _ _ c.if-text-upto.false) c.same_bytes.ensures
