use Rattle.model.specs.Block.{copy_of}
use Rattle.checks.proofs.Blocks.{copy_same}
use Rattle.checks.proofs.block.decode_copy.Goals as goal

pub returns : goal.returns
unfolding copy_of
returns c = copy_same c.fields.ensures c.fields-2.ensures
