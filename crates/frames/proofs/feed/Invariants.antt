use lib.ListN.{length}
use Rattle.pouring.specs.Lent.{lent, SameLent}
use Rattle.lines.specs.Talk.{talked}
use Rattle.lines.specs.Frames.{Talking}
use Rattle.lines.specs.Hearing.{talk_now}
use Rattle.frames.proofs.Going.{Fed}
use Rattle.frames.proofs.feed.Given as goal

abbrev pub invariant-loop-rest : goal.invariant-loop-rest
invariant-loop-rest g l =
    Talking (talk_now l.here l.bytes l.area (lent l.images))
    × Fed (talked (talk_now l.initial.here l.initial.bytes l.initial.area (lent l.initial.images)) l.input)
    (g.W.Write.contents l.initial.writer) (g.W.Write.contents l.writer)
    (talk_now l.here l.bytes l.area (lent l.images)) l.rest
    × SameLent l.initial.images l.images

abbrev pub decreases-loop-rest : goal.decreases-loop-rest
decreases-loop-rest g l = length l.rest
