use Rattle.model.specs.Block.{block_of}
use Rattle.checks.proofs.block.decode.Goals as goal

pub returns : goal.returns
unfolding block_of
returns c = c.fields.ensures
