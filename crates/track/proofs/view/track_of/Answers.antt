use mathlib.Core.Path.{refl}
use Rattle.track.proofs.Images.{track_lent}
use Rattle.track.proofs.view.track_of.Goals as goal

pub returns : goal.returns
returns c = (refl, track_lent _ _ _ _ _ c.stretch-stretch.ensures.0 c.stretch-stretch.ensures.1)
