use Rattle.track.proofs.Pairs.{Whole}
use Rattle.track.proofs.pair.splits_pair.Given as goal

abbrev pub invariant-loop-t : goal.invariant-loop-t
invariant-loop-t l = Whole l.fn.p l.fn.s l.image l.t
