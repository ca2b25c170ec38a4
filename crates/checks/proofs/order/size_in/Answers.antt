use native.Mathlib.Omega.{arith}
use Rattle.model.specs.Checks.{size_in}
use Rattle.checks.proofs.order.size_in.Goals as goal

pub returns : goal.returns
unfolding size_in
returns c = grind arith
