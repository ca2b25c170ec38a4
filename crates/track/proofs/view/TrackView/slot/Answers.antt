use mathlib.Core.Path.{ap, ◌∙◌}
use lib.ListN.{length}
use Rattle.track.proofs.Images.{slot_lent, length_slot}
use Rattle.track.proofs.view.TrackView.slot.Goals as goal

pub returns : goal.returns
returns c =
    let s = c.args.self in
    let lent = slot_lent s.p c.args.k _ c.slot_size-size.ensures s.bytes.now in
    (lent, ap length lent ∙ length_slot s.p s.bytes.now s.whole c.args.k c.requires)
