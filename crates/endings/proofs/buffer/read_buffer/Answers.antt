use borrow.Author.Rules.{rules}
use mathlib.Core.Path.{◌≡◌, sym, ◌∙◌}
use lib.ListN.{length}
use lib.Seq.{length-take-le}
use Rattle.base.proofs.Fronts.{front_lent}
use Rattle.endings.proofs.buffer.read_buffer.Goals as goal

pub copy_from_slice-requires : goal.copy_from_slice-requires
copy_from_slice-requires c =
    let whole : length c.args.buffer.now ≡ 512 = search rules in
    length-take-le 512 _ c.requires.1 ∙ sym whole

pub returns : goal.returns
returns c =
    let whole : length c.args.buffer.now ≡ 512 = search rules in
    (c.good.ensures, front_lent _ _ _ _ whole c.copy_from_slice.ensures.after)
