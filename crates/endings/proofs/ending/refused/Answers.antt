use Rattle.endings.proofs.ending.refused.Goals as goal

pub returns : goal.returns
returns c = rw c.number.ensures at c.refused_by_number.ensures
