use Rattle.model.specs.Block.{alternate_of}
use borrow.Author.Rules.{rules}
use Rattle.checks.proofs.block.alternate_of.Goals as goal

pub returns : goal.returns
unfolding alternate_of
returns c = search rules
