use Rattle.lines.proofs.Hearings.{begun_first}
use Rattle.lines.proofs.talk.begin.Goals as goal

pub returns : goal.returns
returns c = begun_first _ _ _ _ c.requires c.fresh.ensures c.start.ensures
