use Rattle.geometry.proofs.Labels.{label_short, label_other_by_number, label_zeros_by_number}
use Rattle.geometry.proofs.config.label_setting.Goals as goal

pub returns-then-image-lt16 : goal.returns-then-image-lt16
returns-then-image-lt16 c = label_short _ _ c.if-image-lt16.true

pub returns-then-rest-ne0 : goal.returns-then-rest-ne0
returns-then-rest-ne0 c = label_other_by_number _ _ c.if-image-lt16.false _ c.from_be_bytes-rest.ensures c.if-rest-ne0.true

pub returns : goal.returns
returns c = label_zeros_by_number _ _ c.if-image-lt16.false _ c.from_be_bytes-rest.ensures c.if-rest-ne0.false _ c.config_in.ensures _ c.setting_of.ensures
