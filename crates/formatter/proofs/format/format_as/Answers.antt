use native.Mathlib.Omega.{arith}
use Rattle.track.specs.Id.{id_for}
use Rattle.formatter.proofs.Steps.{stretch_whole, track_walked}
use Rattle.formatter.proofs.format.format_as.Goals as goal

pub format_slots-requires : goal.format_slots-requires
unfolding id_for
format_slots-requires c =
    let s = c.stretch-place.ensures in
    (stretch_whole _ _ c.args.map.now c.args.fill.bytes.now _ c.requires.3 c.requires.4 _ _ s.0 s.1 c.requires.0.long c.requires.1, omega arith, rw c.id_for-id.ensures c.requires.2)

pub returns : goal.returns
returns c =
    let s = c.stretch-place.ensures in
    track_walked _ _ _ _ _ c.requires.3 c.requires.4 _ _ s.0 s.1 c.requires.0.long c.requires.1 _ _ _ c.id_for-id.ensures c.format_slots.ensures
