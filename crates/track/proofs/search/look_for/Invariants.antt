use Rattle.track.proofs.Notes.{Looking}
use Rattle.track.proofs.search.look_for.Given as goal

abbrev pub invariant-loop-k : goal.invariant-loop-k
invariant-loop-k l = Looking l.track.p l.s l.track.bytes.now l.slots l.k
