use mathlib.Core.Path.{refl}
use Rattle.model.specs.Checks.{present_with}
use Rattle.model.specs.Engine.{view_of}
use Rattle.drives.proofs.view.view_of.Goals as goal

pub returns : goal.returns
unfolding view_of present_with
returns c = rw (c.setting_in.ensures, c.medium_of-medium.ensures) refl
