use native.Mathlib.Omega.{arith}
use Rattle.model.specs.Checks.{filling_of}
use Rattle.copies.proofs.judge.filling_of.Goals as goal

pub returns-in_default : goal.returns-in_default
unfolding filling_of
returns-in_default c = grind arith

pub returns-in_default-to : goal.returns-in_default-to
unfolding filling_of
returns-in_default-to c = grind arith

pub returns : goal.returns
unfolding filling_of
returns c = grind arith
