use Rattle.geometry.proofs.Labels.{label_long, holds_none, holds_ten}
use Rattle.geometry.proofs.config.label_holds.Goals as goal

pub config_in-requires : goal.config_in-requires
config_in-requires c = label_long _ _ _ c.label_setting-setting.ensures _ c.in-Some.is

pub returns-in-None : goal.returns-in-None
returns-in-None c = holds_none _ _ _ c.label_setting-setting.ensures _ c.in-None.is

pub returns-in-Some : goal.returns-in-Some
returns-in-Some c = holds_ten _ _ _ c.label_setting-setting.ensures _ _ c.in-Some.is _ _ c.config_in.ensures c.eq.ensures
