use Rattle.model.specs.Engine.{reset_of}
use Rattle.drives.proofs.reset.reset.Goals as goal

pub returns : goal.returns
unfolding reset_of
returns c = rw (c.bare_answer.ensures, c.fresh.ensures)
