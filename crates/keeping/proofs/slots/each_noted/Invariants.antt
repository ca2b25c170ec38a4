use mathlib.Core.Bool.{not}
use Rattle.base.proofs.Firsts.{Sought}
use Rattle.keeping.proofs.Notes.{has}
use Rattle.keeping.proofs.slots.each_noted.Given as goal

abbrev pub invariant-loop-s : goal.invariant-loop-s
invariant-loop-s l = Sought (λ s. not (has l.slots s)) l.fn.n l.s
