use Rattle.base.proofs.Bools.{test_on}
use Rattle.model.specs.Block.{block_of}
use Rattle.engine.proofs.Executes.{whole_two, execute_refused}
use borrow.Author.Rules.{rules}
use mathlib.Core.Path.{ap}
use mathlib.Core.Bool.{not}
use Rattle.engine.proofs.run.execute_on.Goals as goal

pub returns-then-not-is_whole-clause-left : goal.returns-then-not-is_whole-clause-left
returns-then-not-is_whole-clause-left c = execute_refused _ _ _ _ _ c.is_whole.ensures _ (ap not c.if-not-is_whole.true) (rw c.number.ensures at c.bare_answer.ensures)

pub run_block-ending-requires : goal.run_block-ending-requires
run_block-ending-requires c = test_on _ _ c.is_whole.ensures (ap not c.if-not-is_whole.false)

pub bounds-block-1 : goal.bounds-block-1
bounds-block-1 c = whole_two _ (test_on _ _ c.is_whole.ensures (ap not c.if-not-is_whole.false))

pub returns-clause-left : goal.returns-clause-left
unfolding block_of
returns-clause-left c = rw c.with_drive-after.ensures c.run_block-ending.ensures.left
