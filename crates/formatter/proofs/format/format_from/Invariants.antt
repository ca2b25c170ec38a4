use Rattle.std.specs.Prelude.{◌≡◌, ◌-◌}
use Rattle.geometry.specs.Params.{track_count, track}
use Rattle.formatter.specs.Format.{sound_from}
use Rattle.formatter.proofs.format.format_from.Given as goal

-- What is left to do from track t on gives what the whole was to give.
abbrev pub invariant-loop-t : goal.invariant-loop-t
invariant-loop-t l =
    sound_from l.fn.p l.map l.fill.bytes.now (track_count l.fn.p - l.t) (track l.t) l.image
    ≡ sound_from l.fn.p l.map l.fill.bytes.now (track_count l.fn.p - l.fn.first.0) l.fn.first l.initial.image
