use Rattle.model.specs.Record.{failed}
use Rattle.endings.proofs.ending.failed_by_number.Goals as goal

pub returns : goal.returns
unfolding failed
returns c = simp (c.with_sense.ensures, c.sense_of.ensures)
