use mathlib.Core.Path.{◌≡◌}
use lib.ListN.{length}
use Rattle.std.specs.Io.KnownBytes.{Keeps}
use Rattle.frames.proofs.read_some.Given as goal

abbrev pub invariant-loop : goal.invariant-loop
invariant-loop g l = (length l.input ≡ length l.initial.input) × Keeps (g.R.Read.remaining l.initial.reader) (g.R.Read.remaining l.reader)
