use Rattle.track.proofs.Laws.{Looked}
use Rattle.keeping.proofs.slots.note_all.Given as goal

abbrev pub invariant-loop-k : goal.invariant-loop-k
invariant-loop-k l = Looked l.track.p l.track.bytes.now l.slots l.k
