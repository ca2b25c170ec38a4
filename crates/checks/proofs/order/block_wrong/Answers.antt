use mathlib.Core.Path.{◌≡◌, refl}
use borrow.Author.Rules.{rules}
use Rattle.geometry.specs.Medium.{is_floppy}
use Rattle.model.specs.Table.{HardOnly, Control}
use Rattle.model.specs.Checks.{block_wrong}
use Rattle.checks.proofs.Orders.{checked, control_checked, any_of}
use Rattle.checks.proofs.order.block_wrong.Goals as goal

pub returns : goal.returns
unfolding block_wrong is_floppy
returns c =
    let floppy : c.eq.result ≡ is_floppy c.args.view.medium = search rules in
    any_of c.args.b.top (checked c.requires HardOnly refl floppy refl)
    (checked c.requires Control refl (control_checked c.requires _ refl refl c.control_wrong-wrong.ensures) refl)
    refl refl
