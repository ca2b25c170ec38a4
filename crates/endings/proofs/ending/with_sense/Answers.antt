use mathlib.Core.Path.{refl}
use Rattle.model.specs.Record.{sensed}
use Rattle.endings.proofs.ending.with_sense.Goals as goal

pub returns : goal.returns
unfolding sensed
returns c = refl
