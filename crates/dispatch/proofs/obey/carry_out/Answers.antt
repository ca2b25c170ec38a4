use mathlib.Core.Path.{◌∙◌}
use Rattle.dispatch.proofs.Admits.{free_admits}
use Rattle.dispatch.proofs.Carries.{free_carries, disk_carries, none_carries}
use Rattle.dispatch.proofs.obey.carry_out.Goals as goal

pub do_free-requires : goal.do_free-requires
do_free-requires c =
    (c.requires.0.block, free_admits c.requires.0 _ (c.requires.1 ∙ c.in-Free.is))

pub with_setting-requires : goal.with_setting-requires
with_setting-requires c =
    (c.requires.0, c.requires.1 ∙ c.in-OnDisk.is, c.requires.2)

pub returns-in-Free : goal.returns-in-Free
returns-in-Free c = free_carries _ _ _ _ _ _ _ _ _ _ c.in-Free.is c.do_free.ensures

pub returns-in-OnDisk : goal.returns-in-OnDisk
returns-in-OnDisk c = disk_carries _ _ _ _ _ _ _ _ _ _ c.in-OnDisk.is c.with_setting.ensures

pub returns-in-Unknown : goal.returns-in-Unknown
returns-in-Unknown c = none_carries _ _ _ _ _ _ _ _ _ c.in-Unknown.is c.failed.ensures
