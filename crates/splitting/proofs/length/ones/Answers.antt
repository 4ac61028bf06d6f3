-- `ones` meets its contract. Assumes nothing.
use mir.Val.{Fits}
use mir.Syntax.{w64}
use Rattle.splitting.proofs.Choices.{word_ones}
use borrow.Author.Rules.{rules}
use Rattle.splitting.proofs.length.ones.Goals as goal

pub returns : goal.returns
returns c = let f : Fits w64 c.args.x = search rules in word_ones f.fits
