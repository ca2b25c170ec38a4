use Rattle.model.specs.Record.{refused}
use Rattle.endings.proofs.ending.refused_by_number.Goals as goal

pub returns : goal.returns
unfolding refused
returns c = simp c.bare_answer.ensures
