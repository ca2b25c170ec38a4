use Rattle.formatter.proofs.IdChecks.{Right}
use Rattle.formatter.proofs.check.ids_are.Given as goal

abbrev pub invariant-loop-k : goal.invariant-loop-k
invariant-loop-k l = Right l.track.p l.fn.id l.map l.track.bytes.now l.first l.k
