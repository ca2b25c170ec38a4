use Rattle.sectors.proofs.ReadRun.{Reading}
use Rattle.sectors.proofs.run.read_run.Given as goal

abbrev pub invariant-loop-sector : goal.invariant-loop-sector
invariant-loop-sector l = Reading l.track.p l.m l.s l.track.bytes.now l.initial.places l.places l.slots l.looked l.at l.sector
