use mathlib.Core.Path.{◌≡◌, refl, ◌∙◌}
use native.Mathlib.Omega.{arith}
use Rattle.formatter.specs.Format.{after_steps}
use Rattle.formatter.proofs.Steps.{steps_more, after_steps_lem}
use Rattle.formatter.proofs.format.format_slots.Goals as goal

pub loop-k-init : goal.loop-k-init
unfolding after_steps
loop-k-init c = refl

pub loop-k-preserved : goal.loop-k-preserved
loop-k-preserved c = steps_more _ _ _ _ _ _ _ c.loop-k.invariant c.format_step.ensures

pub returns : goal.returns
returns c =
    let last : c.loop-k.k ≡ c.args.count = omega (arith, c.loop-k-test.false, c.loop-k.auto.k-end) in
    rw (← last) (c.loop-k.invariant ∙ after_steps_lem _ _ _ _ _ (omega arith))
