use Rattle.model.specs.Record.{good}
use Rattle.endings.proofs.ending.good.Goals as goal

pub returns : goal.returns
unfolding good
returns c = simp (c.with_sense.ensures, c.good_sense.ensures)
