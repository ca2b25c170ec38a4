use native.Mathlib.Omega.{arith}
use lib.ListN.{length-take}
use Rattle.track.proofs.Images.{id_of_slot}
use Rattle.track.proofs.view.TrackView.id.Goals as goal

pub returns : goal.returns
returns c =
    let s = c.args.self in
    (id_of_slot s.p s.bytes.now s.whole c.args.k c.requires _ c.slot.ensures.0, simp (length-take) (omega (arith, c.slot.ensures.1)))
