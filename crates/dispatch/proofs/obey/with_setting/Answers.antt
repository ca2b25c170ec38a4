use mathlib.Core.Path.{◌∙◌}
use Rattle.dispatch.proofs.Carries.{valid_carries, unset_carries}
use Rattle.dispatch.proofs.obey.with_setting.Goals as goal

pub do_disk-requires : goal.do_disk-requires
do_disk-requires c =
    (c.requires.0, c.requires.1, c.requires.2 ∙ c.in-Some.is)

pub returns-in-Some : goal.returns-in-Some
returns-in-Some c = valid_carries _ _ _ _ _ _ _ _ _ _ c.in-Some.is c.do_disk.ensures

pub returns-in-None : goal.returns-in-None
returns-in-None c = unset_carries _ _ _ _ _ _ _ _ _ c.in-None.is c.failed.ensures
