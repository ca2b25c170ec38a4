use Rattle.pouring.proofs.turn.after_turn.Goals as goal

pub returns-in-Some : goal.returns-in-Some
returns-in-Some c = simp c.in-Some.is

pub returns-in-Some-fault : goal.returns-in-Some-fault
returns-in-Some-fault c = simp (c.in_default.is, c.in-Some-fault.is)

pub returns : goal.returns
returns c = simp (c.in_default.is, c.in_default-fault.is)
