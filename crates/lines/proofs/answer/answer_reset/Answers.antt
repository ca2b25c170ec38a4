use mathlib.Core.Path.{ap, ◌∙◌}
use Rattle.model.specs.Engine.{reset_of}
use Rattle.lines.proofs.Answers.{reset_answered}
use Rattle.lines.proofs.answer.answer_reset.Goals as goal

pub returns : goal.returns
returns c =
    reset_answered _ _ _ _ _ (c.reset-outcome.ensures ∙ ap reset_of c.shared.ensures) c.tell.ensures
