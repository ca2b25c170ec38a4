use native.Mathlib.Omega.{arith}
use Rattle.model.specs.Checks.{with_params, not_spared}
use Rattle.checks.proofs.order.not_spared.Goals as goal

pub returns : goal.returns
unfolding with_params not_spared
returns c = grind arith
