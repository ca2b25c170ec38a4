use native.Mathlib.Omega.{arith}
use Rattle.model.specs.Checks.{with_params}
use Rattle.checks.proofs.order.interleave_wrong.Goals as goal

pub returns : goal.returns
unfolding with_params
returns c = grind arith
