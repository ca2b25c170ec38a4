use mathlib.Core.Path.{ap, ◌∙◌}
use lib.ListN.{length}
use Rattle.track.proofs.Images.{data_lent_of, length_data}
use Rattle.track.proofs.view.TrackView.data.Goals as goal

pub returns : goal.returns
returns c =
    let s = c.args.self in
    let lent = data_lent_of s.p s.bytes.now s.whole c.args.k c.requires _ c.slot.ensures.0 c.slot.ensures.1 in
    (lent, ap length lent ∙ length_data s.p s.bytes.now s.whole c.args.k c.requires)
