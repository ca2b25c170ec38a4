use Rattle.sectors.proofs.WriteRun.{Writing}
use Rattle.sectors.proofs.run.write_run.Given as goal

abbrev pub invariant-loop-sector : goal.invariant-loop-sector
invariant-loop-sector l = Writing l.p l.m l.s l.given l.initial.track l.track l.slots l.looked l.at l.sector
