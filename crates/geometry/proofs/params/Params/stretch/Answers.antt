use native.Mathlib.Omega.{arith}
use mathlib.Core.Path.{refl}
use Rattle.geometry.proofs.Sizes.{start_room}
use Rattle.geometry.proofs.params.Params.stretch.Goals as goal

pub returns : goal.returns
returns c = rw c.track_size-size.ensures (refl, refl, omega (arith, start_room _ c.requires.0 c.args.t c.requires.1))
