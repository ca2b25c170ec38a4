use Rattle.geometry.proofs.Labels.{label_long}
use Rattle.drives.proofs.Loads.{load_invalid, load_valid}
use mathlib.Core.Path.{◌∙◌}
use Rattle.drives.proofs.load.load.Goals as goal

pub config_in-requires : goal.config_in-requires
config_in-requires c = label_long _ _ _ c.label_setting.ensures _ c.in-Some.is

pub returns-in-None : goal.returns-in-None
returns-in-None c =
    c.blank_drive.ensures ∙ load_invalid _ _ _ _ c.medium_of.ensures c.label_setting.ensures c.in-None.is

pub returns-in-Some : goal.returns-in-Some
returns-in-Some c =
    load_valid _ _ _ _ c.medium_of.ensures c.label_setting.ensures _ c.in-Some.is _ c.config_in.ensures _ c.blank_drive-in-Some.ensures
