use Prim.Native.Nat.{◌-◌}
use Rattle.sectors.proofs.ReadLoops.{Reading}
use Rattle.sectors.proofs.read.read_sectors.Given as goal

abbrev pub invariant-loop-i : goal.invariant-loop-i
invariant-loop-i l = Reading l.p l.n l.a l.image l.initial.area l.area l.i l.at

abbrev pub decreases-loop-i : goal.decreases-loop-i
decreases-loop-i l = l.n - l.i
