use Rattle.checks.proofs.Blocks.{copy_long, other_long}
use Rattle.checks.proofs.block.block_length.Goals as goal

pub returns-then-is_copy : goal.returns-then-is_copy
returns-then-is_copy c = copy_long _ c.is_copy.ensures c.if-is_copy.true

pub returns-else-is_copy : goal.returns-else-is_copy
returns-else-is_copy c = other_long _ c.is_copy.ensures c.if-is_copy.false
