use borrow.Author.Rules.{rules}
use Rattle.model.specs.Block.{keeps}
use Rattle.checks.proofs.block.keeps_contents.Goals as goal

pub returns : goal.returns
unfolding keeps
returns c = search rules
