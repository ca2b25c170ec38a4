use mathlib.Core.Path.{◌≡◌}
use lib.ListN.{length}
use Rattle.pouring.specs.Lent.{lent, SameLent}
use Rattle.lines.specs.Frames.{Talking}
use Rattle.lines.specs.Hearing.{talk_now}
use Rattle.frames.specs.Onward.{Onward}
use Rattle.frames.proofs.converse.Given as goal

abbrev pub invariant-loop : goal.invariant-loop
invariant-loop g l =
    (length l.input ≡ length l.initial.input)
    × Talking (talk_now l.session l.bytes l.area (lent l.images))
    × Onward (talk_now l.initial.session l.initial.bytes l.initial.area (lent l.initial.images))
    (talk_now l.session l.bytes l.area (lent l.images))
    (g.R.Read.remaining l.initial.reader) (g.R.Read.remaining l.reader) (g.W.Write.contents l.initial.writer) (g.W.Write.contents l.writer)
    × SameLent l.initial.images l.images
