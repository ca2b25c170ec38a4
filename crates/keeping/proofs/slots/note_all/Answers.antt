use native.Mathlib.Omega.{arith}
use Rattle.track.proofs.Laws.{looked_more}
use Rattle.keeping.proofs.slots.note_all.Goals as goal

pub loop-k-init : goal.loop-k-init
loop-k-init c = record { most = omega arith; long = c.requires.0; notes = c.requires.1 }

pub loop-k-preserved : goal.loop-k-preserved
loop-k-preserved c =
    looked_more _ _ _ _ _ c.loop-k.invariant _ c.id.ensures.0 c.note.ensures c.loop-k-test.true
    c.args.track.within.sectors_most
