use Rattle.std.specs.Prelude.{◌≡◌}
use Rattle.formatter.specs.Format.{after_steps}
use Rattle.formatter.proofs.format.format_slots.Given as goal

abbrev pub invariant-loop-k : goal.invariant-loop-k
invariant-loop-k l = l.track ≡ after_steps l.fn.id l.map l.fill.bytes.now l.k l.initial.track
