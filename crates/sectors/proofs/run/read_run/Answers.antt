use native.Mathlib.Omega.{arith}
use lib.ListN.{length-take, length-drop}
use Rattle.sectors.proofs.ReadRun.{reading_none, reading_room, reading_all, reading_stop, reading_slot, reading_more}
use Rattle.sectors.proofs.run.read_run.Goals as goal

pub loop-sector-init : goal.loop-sector-init
loop-sector-init c = reading_none _ _ _ _ _

pub returns-in_default : goal.returns-in_default
returns-in_default c =
    reading_stop _ _ _ _ _ _ _ _ _ _ c.loop-sector.invariant (c.args.track.within, c.args.track.whole, c.requires.0, c.requires.1) c.loop-sector-test.true
    _ _ c.look_for-looked.ensures c.in_default.is

pub data-requires : goal.data-requires
data-requires c =
    reading_slot _ _ _ _ _ _ _ _ _ _ c.loop-sector.invariant (c.args.track.within, c.args.track.whole, c.requires.0, c.requires.1) c.loop-sector-test.true _ _ c.look_for-looked.ensures _ c.in-Some.is

pub move_bytes-requires : goal.move_bytes-requires
move_bytes-requires c =
    let room = reading_room _ _ _ _ _ _ _ _ _ _ c.loop-sector.invariant (c.args.track.within, c.args.track.whole, c.requires.0, c.requires.1) c.loop-sector-test.true in
    simp (length-take, length-drop, c.data.ensures.1) (omega (arith, room))

pub loop-sector-preserved : goal.loop-sector-preserved
loop-sector-preserved c =
    reading_more _ _ _ _ _ _ _ _ _ _ c.loop-sector.invariant (c.args.track.within, c.args.track.whole, c.requires.0, c.requires.1) c.loop-sector-test.true
    _ _ c.look_for-looked.ensures _ c.in-Some.is
    _ _ c.data.ensures.0 c.move_bytes.ensures

pub returns : goal.returns
returns c = reading_all _ _ _ _ _ _ _ _ _ _ c.loop-sector.invariant c.loop-sector-test.false
