use borrow.Author.Rules.{rules}
use native.Mathlib.Omega.{arith}
use Rattle.base.proofs.Decide.{decide}
use Rattle.model.specs.Checks.{reach_of}
use Rattle.checks.proofs.Orders.{count_bounds}
use Rattle.checks.proofs.order.reach_of.Goals as goal

pub returns-then-counted : goal.returns-then-counted
unfolding reach_of
returns-then-counted c =
    let b = count_bounds c.args.b (search rules) in
    let e = c.count_of.ensures.0 in
    (search (rules, decide), omega arith, omega arith)

pub returns : goal.returns
unfolding reach_of
returns c = (search (rules, decide), omega arith, omega arith)
