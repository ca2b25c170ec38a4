use Rattle.keeping.proofs.Stepping.{Stepped}
use Rattle.keeping.proofs.step.keep_steps.Given as goal

abbrev pub invariant-loop-i : goal.invariant-loop-i
invariant-loop-i l = Stepped l.fn.p l.fn.from l.fn.to l.map l.initial.image l.image l.count l.i
