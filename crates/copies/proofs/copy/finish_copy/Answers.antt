use mathlib.Core.Path.{ap, ◌∙◌}
use native.Mathlib.Omega.{arith}
use Rattle.copying.specs.Ends.{as_end, fault_end}
use Rattle.copies.proofs.Ends.{ends_well, ends_source, ends_target, ends_short}
use Rattle.copies.proofs.copy.finish_copy.Goals as goal

pub failed-requires : goal.failed-requires
failed-requires c = (c.requires.from.drive, c.requires.from.drive, rw c.further.ensures c.requires.source_below)

pub failed-requires-in-Some-AtTarget : goal.failed-requires-in-Some-AtTarget
failed-requires-in-Some-AtTarget c =
    (c.requires.from.drive, c.requires.to.drive, rw c.further-in-Some-AtTarget.ensures c.requires.target_below)

pub overflow_sub-done : goal.overflow_sub-done
overflow_sub-done c = c.requires.short_some (ap as_end c.in-Some-PartlyFilled.is ∙ ap fault_end (rw c.in-Some-PartlyFilled.is at c.in-Some-PartlyFilled.field-0-is))

pub failed-requires-in-Some-PartlyFilled : goal.failed-requires-in-Some-PartlyFilled
failed-requires-in-Some-PartlyFilled c =
    (c.requires.from.drive, c.requires.to.drive, rw c.further-in-Some-PartlyFilled.ensures (omega (arith, c.requires.target_below)))

pub returns-in-None : goal.returns-in-None
returns-in-None c = ends_well _ _ _ _ _ _ (ap as_end c.in-None.is) c.good.ensures

pub returns-in-Some-AtSource : goal.returns-in-Some-AtSource
returns-in-Some-AtSource c = ends_source _ _ _ _ _ _ _ _ (ap as_end c.in-Some-AtSource.is ∙ ap fault_end (rw c.in-Some-AtSource.is at c.in-Some-AtSource.field-0-is)) c.further.ensures c.failed.ensures

pub returns-in-Some-AtTarget : goal.returns-in-Some-AtTarget
returns-in-Some-AtTarget c = ends_target _ _ _ _ _ _ _ _ (ap as_end c.in-Some-AtTarget.is ∙ ap fault_end (rw c.in-Some-AtTarget.is at c.in-Some-AtTarget.field-0-is)) c.further-in-Some-AtTarget.ensures c.failed-in-Some-AtTarget.ensures

pub returns-in-Some-PartlyFilled : goal.returns-in-Some-PartlyFilled
returns-in-Some-PartlyFilled c = ends_short _ _ _ _ _ _ _ (ap as_end c.in-Some-PartlyFilled.is ∙ ap fault_end (rw c.in-Some-PartlyFilled.is at c.in-Some-PartlyFilled.field-0-is)) c.further-in-Some-PartlyFilled.ensures c.failed-in-Some-PartlyFilled.ensures
