use Rattle.model.specs.Block.{is_copy}
use Rattle.checks.proofs.Blocks.{none_copies}
use borrow.Author.Rules.{rules}
use Rattle.checks.proofs.block.is_copy.Goals as goal

pub returns-then-bytes-eq0 : goal.returns-then-bytes-eq0
returns-then-bytes-eq0 c = none_copies _ c.if-bytes-eq0.true

pub returns : goal.returns
unfolding is_copy
returns c = search rules
