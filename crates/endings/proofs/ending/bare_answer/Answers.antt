use mathlib.Core.Path.{refl}
use Rattle.endings.proofs.ending.bare_answer.Goals as goal

pub returns : goal.returns
returns c = refl
