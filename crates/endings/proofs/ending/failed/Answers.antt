use Rattle.endings.proofs.ending.failed.Goals as goal

pub returns : goal.returns
returns c = rw c.number.ensures.0 at c.failed_by_number.ensures
