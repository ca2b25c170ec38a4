use borrow.Author.Rules.{rules}
use Rattle.base.proofs.Decide.{decide}
use Rattle.model.specs.Checks.{judged, in_order}
use Rattle.checks.proofs.order.order.Goals as goal

pub returns-then-hits : goal.returns-then-hits
unfolding judged in_order
returns-then-hits c = search (rules, decide)

pub returns-then-hits-2 : goal.returns-then-hits-2
unfolding judged in_order
returns-then-hits-2 c = search (rules, decide)

pub returns-then-hits-3 : goal.returns-then-hits-3
unfolding judged in_order
returns-then-hits-3 c = search (rules, decide)

pub returns-then-hits-4 : goal.returns-then-hits-4
unfolding judged in_order
returns-then-hits-4 c = search (rules, decide)

pub returns-then-hits-5 : goal.returns-then-hits-5
unfolding judged in_order
returns-then-hits-5 c = search (rules, decide)

pub returns-then-hits-6 : goal.returns-then-hits-6
unfolding judged in_order
returns-then-hits-6 c = search (rules, decide)

pub returns-then-hits-7 : goal.returns-then-hits-7
unfolding judged in_order
returns-then-hits-7 c = search (rules, decide)

pub returns-then-hits-8 : goal.returns-then-hits-8
unfolding judged in_order
returns-then-hits-8 c = search (rules, decide)

pub returns-then-hits-9 : goal.returns-then-hits-9
unfolding judged in_order
returns-then-hits-9 c = search (rules, decide)

pub returns : goal.returns
unfolding judged in_order
returns c = search (rules, decide)
