use native.Mathlib.Omega.{arith}
use Rattle.formats.proofs.Makings.{bound_of, drive_lent}
use borrow.Author.Rules.{rules}
use Rattle.formats.proofs.making.make_drive.Goals as goal

pub format_from-requires : goal.format_from-requires
format_from-requires c =
    (c.requires.0, omega (arith, bound_of _ _ _ c.track_of.ensures c.requires.1), search rules, c.requires.3)

pub returns : goal.returns
returns c =
    drive_lent _ _ _ _ _ c.requires.2 c.layout-map.ensures
    _ _ _ _ c.track_of.ensures c.format_from.ensures c.write_label.ensures
