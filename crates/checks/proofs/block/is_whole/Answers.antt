use Rattle.checks.proofs.Blocks.{six_whole, ten_whole, none_whole}
use Rattle.checks.proofs.block.is_whole.Goals as goal

pub returns-then-bytes-eq6 : goal.returns-then-bytes-eq6
returns-then-bytes-eq6 c = six_whole c.args.bytes.now c.is_copy.ensures c.if-bytes-eq6.true

pub returns-then-bytes-eq10 : goal.returns-then-bytes-eq10
returns-then-bytes-eq10 c = ten_whole c.args.bytes.now c.is_copy-then-bytes-eq10.ensures c.if-bytes-eq10.true

pub returns-else-bytes-eq10 : goal.returns-else-bytes-eq10
returns-else-bytes-eq10 c = none_whole c.args.bytes.now c.if-bytes-eq6.false c.if-bytes-eq10.false
