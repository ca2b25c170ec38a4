use Rattle.base.proofs.Firsts.{Sought}
use Rattle.track.specs.Find.{holds}
use Rattle.track.proofs.find.find_in.Given as goal

abbrev pub invariant-loop-k : goal.invariant-loop-k
invariant-loop-k l = Sought (holds l.track.p l.s l.track.bytes.now) l.track.p.sectors l.k
