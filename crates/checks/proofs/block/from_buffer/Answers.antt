use borrow.Author.Rules.{rules}
use Rattle.model.specs.Block.{from_buffer}
use Rattle.checks.proofs.block.from_buffer.Goals as goal

pub returns : goal.returns
unfolding from_buffer
returns c = search rules
