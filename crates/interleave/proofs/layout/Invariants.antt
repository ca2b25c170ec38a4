use Rattle.interleave.proofs.Layouts.{Filled}
use Rattle.interleave.proofs.layout.Given as goal

abbrev pub invariant-loop-s : goal.invariant-loop-s
invariant-loop-s l = Filled l.n l.f l.s l.map l.slot
