use native.Mathlib.Omega.{arith}
use Rattle.hex_text.proofs.Rooms.{taken_more}
use Rattle.hex_text.proofs.line.accept_all.Goals as goal

pub loop-c-preserved : goal.loop-c-preserved
loop-c-preserved c = taken_more _ _ _ _ c.loop-c.invariant _ (omega arith) c.accept-line.ensures
