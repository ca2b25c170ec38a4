use borrow.Author.Rules.{rules}
use Rattle.base.proofs.Decide.{decide}
use Rattle.model.specs.Checks.{control_wrong}
use Rattle.checks.proofs.Orders.{wrong_fill, wrong_keep, wrong_other}
use Rattle.checks.proofs.order.control_wrong.Goals as goal

pub returns-then-low-eq0 : goal.returns-then-low-eq0
unfolding control_wrong
returns-then-low-eq0 c = search (rules, decide)

pub returns-then-low-eq32 : goal.returns-then-low-eq32
returns-then-low-eq32 c = wrong_fill _ _ _ c.if-low-eq0.false c.if-low-eq32.true

pub returns-then-low-eq16 : goal.returns-then-low-eq16
returns-then-low-eq16 c = wrong_keep _ _ _ c.if-low-eq0.false c.if-low-eq16.true

pub returns : goal.returns
returns c = wrong_other _ _ _ c.if-low-eq0.false c.if-low-eq32.false c.if-low-eq16.false
