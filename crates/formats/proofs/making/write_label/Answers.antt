use mathlib.Core.Path.{◌≡◌}
use lib.ListN.{length}
use Rattle.formats.proofs.Makings.{label_put}
use borrow.Author.Rules.{rules}
use Rattle.formats.proofs.making.write_label.Goals as goal

pub returns : goal.returns
returns c =
    let ten : length c.args.config ≡ 10 = search rules in
    label_put _ _ _ _ ten c.copy_from_slice.ensures.after c.copy_from_slice-2.ensures.after
