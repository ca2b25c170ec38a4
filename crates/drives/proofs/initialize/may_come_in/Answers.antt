use Rattle.drives.proofs.Initials.{enter_invalid, enter_valid}
use Rattle.drives.proofs.initialize.may_come_in.Goals as goal

pub returns-then-is_some : goal.returns-then-is_some
returns-then-is_some c =
    enter_valid _ _ _ _ c.setting_of.ensures c.is_some.ensures c.if-is_some.true _ c.precompensation_in.ensures

pub returns-else-is_some : goal.returns-else-is_some
returns-else-is_some c = enter_invalid _ _ _ _ c.setting_of.ensures c.is_some.ensures c.if-is_some.false
