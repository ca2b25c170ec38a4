use mathlib.Core.Path.{refl, ap, ◌∙◌}
use native.Mathlib.Omega.{arith}
use Rattle.track.specs.Image.{first_id}
use Rattle.track.specs.Id.{id_in}
use Rattle.track.proofs.id.first_id.Goals as goal

pub id-requires : goal.id-requires
id-requires c = omega (arith, c.track_of.result.within.sectors_some)

pub returns : goal.returns
unfolding first_id
returns c = c.read_id.ensures ∙ ap id_in c.id.ensures.0 ∙ rw (c.track_of.ensures.0, c.track_of.ensures.1) refl
