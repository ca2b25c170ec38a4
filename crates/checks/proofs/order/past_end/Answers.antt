use native.Mathlib.Omega.{arith}
use Rattle.model.specs.Checks.{with_params}
use Rattle.checks.proofs.Orders.{past_by}
use Rattle.checks.proofs.order.past_end.Goals as goal

pub returns : goal.returns
unfolding with_params
returns c = grind (arith, past_by)
