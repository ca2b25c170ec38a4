use Rattle.drives.proofs.Initials.{initialize_failed, initialize_taken}
use mathlib.Core.Path.{refl, ap}
use mathlib.Core.Bool.{not}
use Rattle.drives.proofs.initialize.initialize.Goals as goal

pub returns-then-not-taken : goal.returns-then-not-taken
returns-then-not-taken c =
    initialize_failed _ _ _ _ _ _ _ _ _ _ c.config_in-config.ensures c.medium_of-medium.ensures c.label_holds-held.ensures
    c.may_come_in-fits.ensures refl (ap not c.if-not-taken.true) c.failed.ensures

pub returns : goal.returns
returns c =
    initialize_taken _ _ _ _ _ _ _ _ _ _ c.config_in-config.ensures c.medium_of-medium.ensures c.label_holds-held.ensures
    c.may_come_in-fits.ensures refl (ap not c.if-not-taken.false) c.good.ensures
