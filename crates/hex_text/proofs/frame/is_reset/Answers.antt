use mathlib.Core.Path.{◌∙◌}
use Rattle.hex_text.proofs.Frames.{reset_pointwise}
use Rattle.hex_text.proofs.frame.is_reset.Goals as goal

-- Written out, though the check could be told the law instead: the edit reset_with_more follows this answer.
pub returns : goal.returns
returns c = c.eq.ensures ∙ reset_pointwise c.args.frame.now
