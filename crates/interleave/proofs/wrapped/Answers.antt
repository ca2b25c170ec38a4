use native.Mathlib.Omega.{arith}
use Rattle.interleave.proofs.Layouts.{step_short, step_past}
use Rattle.interleave.proofs.wrapped.Goals as goal

pub returns-then-slot-rest : goal.returns-then-slot-rest
returns-then-slot-rest c = step_short _ _ _ c.if-slot-rest.true

pub returns : goal.returns
returns c = step_past _ _ _ (omega arith) (omega arith) c.if-slot-rest.false
