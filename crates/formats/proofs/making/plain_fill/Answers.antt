use mathlib.Core.Path.{refl}
use Rattle.formats.proofs.Makings.{plain_part}
use Rattle.formats.proofs.making.plain_fill.Goals as goal

pub returns : goal.returns
returns c = (plain_part _ _ _ c.requires c.plain_byte.ensures, refl)
