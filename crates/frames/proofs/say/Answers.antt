use Rattle.std.proofs.KnownBytes.{Appends-kept}
use Rattle.frames.proofs.Going.{say_part, say_kept, say_more}
use Rattle.frames.proofs.say.Goals as goal
use Rattle.frames.proofs.say.Goals.{in-Ok, in-Err+else-ne}

pub returns-in-Ok-eq0-clause-err : goal.returns-in-Ok-eq0-clause-err
returns-in-Ok-eq0-clause-err g c =
    let inv = c.loop.invariant in
    let w = c.in-Ok-eq0 in
    let more = say_more c.args.text.now c.args.n c.loop.done w.field-0 _ _ _ inv.0 c.requires inv.1 w.ensures.bound w.ensures.bytes in
    say_part _ _ _ _ _ more.0 more.1

pub returns-then-ne-clause-err : goal.returns-then-ne-clause-err
returns-then-ne-clause-err g c = say_kept _ _ c.loop.done _ _ _ c.loop.invariant.0 c.loop.invariant.1 c.in-Err.ensures.bytes

pub loop-preserved : goal.loop-preserved
loop-preserved g c =
    let inv = c.loop.invariant in
    elim c.match-write.branch [
      | in-Ok w ↦ rw w.done-is (say_more c.args.text.now c.args.n c.loop.done w.in-Ok.more _ _ _ inv.0 c.requires inv.1 w.in-Ok.ensures.bound w.in-Ok.ensures.bytes)
      | in-Err+else-ne w ↦ rw w.done-is (inv.0, Appends-kept _ _ _ _ inv.1 w.in-Err.ensures.bytes)
    ]

pub returns-clause-err : goal.returns-clause-err
returns-clause-err g c = say_part _ _ c.loop.done _ _ c.loop.invariant.0 c.loop.invariant.1
