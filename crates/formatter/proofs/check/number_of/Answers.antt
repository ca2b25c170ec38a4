use mathlib.Core.Path.{◌∙◌}
use Rattle.formatter.proofs.Numbers.{number_eight}
use Rattle.formatter.proofs.check.number_of.Goals as goal

pub returns : goal.returns
returns c = (c.from_be_bytes.ensures ∙ number_eight _ c.requires, λ i. (c.type_inv.bytes i).fits)
