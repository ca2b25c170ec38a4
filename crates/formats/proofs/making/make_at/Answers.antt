use Rattle.formats.proofs.Makings.{made_lent}
use Rattle.formats.proofs.making.make_at.Goals as goal

pub returns : goal.returns
returns c =
    made_lent _ _ _ _ _ c.requires.3 c.layout-map.ensures _ _ _ c.format_at.ensures
