use borrow.Author.Rules.{rules}
use mathlib.Core.Path.{◌≡◌}
use lib.ListN.{length}
use Rattle.base.proofs.Fronts.{front_lent}
use Rattle.endings.proofs.buffer.request_sense.Goals as goal

pub returns : goal.returns
returns c =
    let four : length c.args.entry.sense ≡ 4 = search rules in
    (rw four, front_lent _ _ _ _ four c.copy_from_slice.ensures.after)
