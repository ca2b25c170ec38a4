use native.Mathlib.Nat.{mul-le-mul}
use native.Mathlib.Omega.{arith}
use Rattle.pouring.proofs.Rooms.{long_track, tracks_bytes, tracks_few, fewer_bytes, some_bytes}
use Rattle.pouring.proofs.turn.with_tracks.Goals as goal

pub overflow_mul-bytes : goal.overflow_mul-bytes
overflow_mul-bytes c = omega (arith, mul-le-mul {n₂ = 32} {m₂ = 512} c.requires.2 c.requires.6)

pub returns-then-bytes-gt-TURN : goal.returns-then-bytes-gt-TURN
returns-then-bytes-gt-TURN c = long_track _ _ _ c.requires.1 c.requires.6 c.if-bytes-gt-TURN.true

pub overflow_mul-track : goal.overflow_mul-track
overflow_mul-track c = omega (arith, mul-le-mul {n₂ = 32} {m₂ = 512} c.requires.4 c.requires.6)

pub nonzero_div-m : goal.nonzero_div-m
nonzero_div-m c = omega (arith, some_bytes _ _ c.requires.3 c.requires.5)

pub overflow_mul-m : goal.overflow_mul-m
overflow_mul-m c = omega (arith, tracks_few c.args.here c.args.sectors _ c.requires.5 c.if-bytes-gt-TURN.false)

pub overflow_add-m : goal.overflow_add-m
overflow_add-m c = omega (arith, tracks_few c.args.here c.args.sectors _ c.requires.5 c.if-bytes-gt-TURN.false)

pub returns-then-left-m : goal.returns-then-left-m
returns-then-left-m c =
    let bytes = tracks_bytes c.args.here c.args.sectors c.args.size c.if-bytes-gt-TURN.false in
    (omega (arith, c.requires.0, c.requires.1), omega arith, fewer_bytes _ _ _ (omega (arith, c.if-left-m.true)) bytes)

pub returns : goal.returns
returns c =
    (omega (arith, c.requires.0), c.if-left-m.false, tracks_bytes c.args.here c.args.sectors c.args.size c.if-bytes-gt-TURN.false)
