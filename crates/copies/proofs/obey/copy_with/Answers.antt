use Rattle.copies.proofs.Obeys.{none_copies, one_copies, both_copy}
use Rattle.copies.proofs.obey.copy_with.Goals as goal

pub copy-requires : goal.copy-requires
copy-requires c = c.requires.both _ _ c.in-Some.is c.in-Some-to.is

pub returns-in_default-clause-left : goal.returns-in_default-clause-left
returns-in_default-clause-left c = none_copies _ _ _ _ _ _ _ c.in_default.is c.failed.ensures

pub returns-in_default-to-clause-left : goal.returns-in_default-to-clause-left
returns-in_default-to-clause-left c = one_copies _ _ _ _ _ _ _ _ c.in-Some.is c.in_default-to.is c.failed-in_default-to.ensures

pub returns-clause-left : goal.returns-clause-left
returns-clause-left c = both_copy _ _ _ _ _ _ _ _ _ c.in-Some.is c.in-Some-to.is c.copy.ensures.left
