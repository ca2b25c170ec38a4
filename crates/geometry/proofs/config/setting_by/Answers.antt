use Rattle.geometry.proofs.Settings.{size_below, size_within, fields_fit, unfit_invalid, fit_setting}
use mathlib.Core.Path.{ap}
use mathlib.Core.Bool.{not}
use Rattle.geometry.proofs.config.setting_by.Goals as goal

pub returns-then-not-fields_in : goal.returns-then-not-fields_in
returns-then-not-fields_in c = unfit_invalid _ _ _ _ _ _ _ c.ranges_of.ensures _ c.fields_in.ensures _ (ap not c.if-not-fields_in.true)

pub size_for-requires : goal.size_for-requires
size_for-requires c = size_below _ _ _ _ _ _ (fields_fit _ _ _ _ _ _ _ c.ranges_of.ensures _ c.fields_in.ensures (ap not c.if-not-fields_in.false))

pub fitted-requires : goal.fitted-requires
fitted-requires c =
    rw c.sized.ensures
    (size_within _ _ _ _ _ _ (fields_fit _ _ _ _ _ _ _ c.ranges_of.ensures _ c.fields_in.ensures (ap not c.if-not-fields_in.false)) _ c.size_for.ensures)

pub returns : goal.returns
returns c =
    fit_setting _ _ _ _ _ _ _ c.ranges_of.ensures _ c.fields_in.ensures _ (ap not c.if-not-fields_in.false) _ c.size_for.ensures
    _ c.sized.ensures _ c.fitted.ensures
