use borrow.Author.Rules.{rules}
use Rattle.base.proofs.Decide.{decide}
use Rattle.model.specs.Checks.{judged}
use Rattle.alternates.proofs.assign.pair_faults.Goals as goal

pub returns-then-moved : goal.returns-then-moved
unfolding judged
returns-then-moved c = search (rules, decide)

pub returns-then-taken : goal.returns-then-taken
unfolding judged
returns-then-taken c = search (rules, decide)

pub returns-then-same : goal.returns-then-same
unfolding judged
returns-then-same c = search (rules, decide)

pub returns-then-away : goal.returns-then-away
unfolding judged
returns-then-away c = search (rules, decide)

pub returns-then-unfit : goal.returns-then-unfit
unfolding judged
returns-then-unfit c = search (rules, decide)

pub returns : goal.returns
unfolding judged
returns c = search (rules, decide)
