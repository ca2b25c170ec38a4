use Prim.Native.Nat.{◌-◌, ◌<◌}
use mathlib.Core.Path.{◌≡◌}
use Rattle.interleave.specs.Layout.{empty_from}
use Rattle.interleave.proofs.next_empty.Given as goal

abbrev pub invariant-loop : goal.invariant-loop
invariant-loop l = (l.slot < l.n) × (empty_from l.map l.n (l.n - l.counter) l.slot ≡ empty_from l.map l.n l.n l.from)
