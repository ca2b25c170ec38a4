use borrow.Author.Tests.{lt-ltb, le-ltb}
use Rattle.model.specs.Checks.{interleave_wrong}
use Rattle.checks.proofs.order.out_of_range.Goals as goal

pub returns-then-f-lt1 : goal.returns-then-f-lt1
unfolding interleave_wrong
returns-then-f-lt1 c = rw (lt-ltb _ _ c.if-f-lt1.true)

pub returns : goal.returns
unfolding interleave_wrong
returns c = rw (le-ltb _ _ c.if-f-lt1.false)
