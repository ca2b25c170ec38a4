use Rattle.base.proofs.Decide.{decide}
use Rattle.model.specs.Commands.{transfer_ending}
use Rattle.transfers.proofs.Finishes.{further_below}
use borrow.Author.Rules.{rules}
use Rattle.transfers.proofs.transfer.finish_by_number.Goals as goal

pub returns-then-code-eq0 : goal.returns-then-code-eq0
unfolding transfer_ending
returns-then-code-eq0 c = search (c.good.ensures, rules, decide)

pub failed_by_number-requires : goal.failed_by_number-requires
failed_by_number-requires c = (c.requires.0, c.requires.0, c.requires.2, further_below _ _ _ c.requires.1 c.requires.3 c.further.ensures)

pub returns : goal.returns
unfolding transfer_ending
returns c = let is = rw c.further.ensures at c.failed_by_number.ensures in search (is, rules, decide)
