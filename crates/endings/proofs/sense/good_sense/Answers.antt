use Rattle.base.proofs.Decide.{decide}
use Rattle.model.specs.Sense.{addressed, sense_of}
use borrow.Author.Rules.{rules}
use Rattle.endings.proofs.sense.good_sense.Goals as goal

pub returns : goal.returns
unfolding addressed sense_of
returns c = search (rules, decide)
