use Prim.Native.Nat.{◌-◌}
use Rattle.sectors.proofs.WriteLoops.{Writing}
use Rattle.sectors.proofs.write.write_sectors.Given as goal

abbrev pub invariant-loop-i : goal.invariant-loop-i
invariant-loop-i l = Writing l.p l.n l.a l.given l.initial.image l.image l.i l.at

abbrev pub decreases-loop-i : goal.decreases-loop-i
decreases-loop-i l = l.n - l.i
