use mathlib.Core.Path.{◌∙◌}
use borrow.Author.Tests.{lt-leb}
use Rattle.track.proofs.Pairs.{low_flag}
use Rattle.track.proofs.pair.splits_at.Goals as goal

pub returns-else-id-ge2 : goal.returns-else-id-ge2
returns-else-id-ge2 c = lt-leb _ _ c.if-id-ge2.false ∙ low_flag _ _ _ c.if-id-ge2.false _ _ c.first_id-id.ensures
