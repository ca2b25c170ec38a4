use borrow.Author.Rules.{rules}
use native.Mathlib.Omega.{arith}
use Rattle.base.proofs.Decide.{decide}
use Rattle.model.specs.Block.{count_of}
use Rattle.checks.proofs.block.count_of.Goals as goal

pub returns-then-b-eq0 : goal.returns-then-b-eq0
unfolding count_of
returns-then-b-eq0 c = (search (rules, decide), omega arith)

pub returns : goal.returns
unfolding count_of
returns c = (search (rules, decide), search rules)
