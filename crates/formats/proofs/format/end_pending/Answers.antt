use mathlib.Core.Path.{refl}
use Rattle.model.specs.Commands.{pending_ended}
use Rattle.formats.proofs.format.end_pending.Goals as goal

pub returns : goal.returns
unfolding pending_ended
returns c = refl
