use Rattle.base.proofs.Decide.{decide}
use borrow.Author.Rules.{rules}
use Rattle.sectors.proofs.transfer.done_of.Goals as goal

pub returns-then-sectors-n : goal.returns-then-sectors-n
returns-then-sectors-n c = search (rules, decide)

pub returns : goal.returns
returns c = search (rules, decide)
