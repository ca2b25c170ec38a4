use Prim.Native.Nat.{◌-◌}
use Rattle.copying.specs.Ends.{as_end}
use Rattle.pouring.specs.Lent.{lent, SameLent}
use Rattle.pouring.proofs.Loops.{Turning, turns_left}
use Rattle.pouring.proofs.copy.copy_through.Given as goal

abbrev pub invariant-loop-scratch : goal.invariant-loop-scratch
invariant-loop-scratch l = Turning l.r l.n (lent l.initial.images) l.s l.scratch (lent l.images)
    × SameLent l.initial.images l.images

abbrev pub decreases-loop-scratch : goal.decreases-loop-scratch
decreases-loop-scratch l = turns_left (as_end l.s.fault) (l.n - l.s.read)
