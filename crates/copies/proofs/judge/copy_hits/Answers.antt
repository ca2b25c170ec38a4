use mathlib.Core.Path.{refl, ◌∙◌}
use Rattle.geometry.proofs.Settings.{valid_some}
use Rattle.copies.proofs.Judges.{copy_hits}
use Rattle.copies.proofs.judge.copy_hits.Goals as goal

pub returns : goal.returns
returns c =
    copy_hits _ _ _ c.requires.2 c.control_wrong.ensures refl (c.is_some-valid.ensures ∙ valid_some _) c.past_end.ensures refl
